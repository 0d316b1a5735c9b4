-- The first entry of two lists, of the second of which the first is held.
use Rattle.std.specs.Prelude.{◌≡◌, ℕ, Bool, List, [], ◌∷◌, Option, Some, None, if◌then◌else◌}
use Rattle.std.specs.Borrow.{Bor}
use Rattle.pc_taken.specs.Takings.{Captured, as_one}

-- a borrowed entry
abbrev pub Lent : Type 0
Lent = Bor (List ℕ) × Bor (Option (List ℕ))

-- a list of which the first entry is held, if there is one
abbrev pub with_held : Option Lent → List Captured → List Captured
with_held None others = []
with_held (Some entry) others = (entry.0.now, entry.1.now) ∷ others

-- The entry is the first of both lists, whatever is in the second after what is held: then come the rest of the first list, and
-- all of the second after what is held, or that too.
abbrev pub IsFirst : List Captured → Option Lent → Captured → List Captured → Bool → Type 0
IsFirst rising other first rest is_of_others =
    (others : List Captured) → as_one rising (with_held other others) ≡ first ∷ as_one rest (if is_of_others then others else with_held other others)
