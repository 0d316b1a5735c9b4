-- The entries at places, and which of them has the least key.
use Rattle.std.specs.Prelude.{◌≡◌, ◌≢◌, ℕ, ◌<◌, List, Option, Some, None, length, slice_index_or, ⊤}
use Rattle.std.specs.declared.cmp.Ordering.TheVariants.{Greater}
use Rattle.pc_types.specs.declared.Triple.{Triple}
use Rattle.pc_model.specs.Database.{key_cmp}

-- the entry at a place, if any
abbrev pub first_entry_at : List (Option Triple) → ℕ → Option Triple
first_entry_at firsts place = slice_index_or firsts place None

-- there is no entry at any place
abbrev pub HasNoEntries : List (Option Triple) → Type 0
HasNoEntries firsts = (place : ℕ) → first_entry_at firsts place ≡ None

-- the first comes no later by its key than the second; nothing comes after all entries
abbrev pub IsNoLater : Option Triple → Option Triple → Type 0
IsNoLater first None = ⊤
IsNoLater None (Some other) = ⊥
IsNoLater (Some entry) (Some other) = key_cmp entry.key other.key ≢ Greater

-- there is an entry at the place, and none at another place has a lesser key
pub record IsLeast (firsts : List (Option Triple)) (place : ℕ) : Type 0 where
  pub within : place < length firsts
  pub some : first_entry_at firsts place ≢ None
  pub least : (other : ℕ) → IsNoLater (first_entry_at firsts place) (first_entry_at firsts other)
