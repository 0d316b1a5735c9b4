-- The view of slots: of each its record, if it has one, and where its link leads.
use Rattle.std.specs.Prelude.{◌≡◌, ◌<◌, ℕ, Bool, true, false, List, [], ◌∷◌, length, Option, Some, None, is_some, slice_index_or, slice_set}

pub record Slots (T : Type 0) : Type 0 where
  pub items : List (Option T)
  pub links : List (Option ℕ)

-- the record of a slot; `None` if there is no such slot
abbrev pub at : {X : Type 0} → List (Option X) → ℕ → Option X
at xs id = slice_index_or xs id None

module _ {T : Type 0} where
  -- the slot has a record
  abbrev pub IsTaken : List (Option T) → ℕ → Type 0
  IsTaken items id = is_some (at items id) ≡ true

  -- there is such a slot, and it has no record
  abbrev pub IsFree : List (Option T) → ℕ → Type 0
  IsFree items id = (id < length items) × (at items id ≡ None)

  -- no slot has a record
  abbrev pub AllFree : List (Option T) → Type 0
  AllFree items = (id : ℕ) → at items id ≡ None

  -- each slot has a record
  abbrev pub is_full : List (Option T) → Bool
  is_full [] = true
  is_full (None ∷ items) = false
  is_full (Some item ∷ items) = is_full items

  -- the slots once this one has the record
  abbrev pub with_item : Slots T → ℕ → Option T → Slots T
  with_item slots id item = record slots { items = slice_set slots.items id item }
