-- The outcome that an add would have.
use Rattle.std.specs.Prelude.{◌≡◌, ℕ, ◌&&◌, ◌||◌, not, Bool, false, true, List, [], ◌∷◌, Option, Some, None, is_none, ℤ}
use Rattle.pc_types.specs.declared.Change.{Change}
use Rattle.pc_types.specs.declared.Outcome.{Outcome}
use Rattle.pc_types.specs.declared.Outcome.TheVariants.{Granted}
use Rattle.pc_types.specs.declared.Refusal.{Refusal}
use Rattle.pc_types.specs.declared.Refusal.TheVariants as why
use Rattle.pc_types.specs.declared.Reply.TheVariants as told
use Rattle.pc_types.specs.Changes.{content_number, added, can_add, or_same}
use Rattle.pc_model.specs.Replies.{first_refusal, is_granted}

-- the causes that an add has after those of a write, by how its request would be answered, what its transaction sees of the key,
-- and what that has written of it
abbrev pub sum_causes : Outcome → Option (List ℕ) → Option Change → ℤ → List (Bool × Refusal)
sum_causes o there own delta =
    (is_granted o && is_none (content_number there), why.NotNumber) ∷ (is_granted o && (is_none (added delta there) || not (can_add own delta)), why.OutOfRange) ∷ []

-- it goes on: there is room for the key, and if the request would be granted there is this sum, which can be kept
abbrev pub AddProceeds : Bool → Outcome → Option (List ℕ) → Option Change → ℤ → Option ℤ → Type 0
AddProceeds full o there own delta None = (full ≡ false) × (is_granted o ≡ false)
AddProceeds full o there own delta (Some sum) = (full ≡ false) × (o ≡ Granted) × (added delta there ≡ Some sum) × (can_add own delta ≡ true)

-- it is refused for this: the first cause that applies
abbrev pub IsRefusedFor : Bool → Outcome → Option (List ℕ) → Option Change → ℤ → Refusal → Type 0
IsRefusedFor full o there own delta r = first_refusal ((full, why.Full) ∷ sum_causes o there own delta) ≡ Some (told.Refused r)

-- what the sum leaves in the key's place, if there is one
abbrev pub value_of_sum : Option ℤ → Option (List ℕ)
value_of_sum sum = or_same None sum
