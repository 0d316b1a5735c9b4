-- Keys and slots: records in slots, seen as a map from their keys to their slots.
use Rattle.std.specs.Prelude.{◌≡◌, ◌≢◌, ◌↔◌, ℕ, List, Option, Some, option_map, slice_set}
use Rattle.pc_chain.specs.Slots.{at, IsFree}

module _ {T : Type 0} (key_of : T → List ℕ) where
  -- the key of the record in the slot, if it has one
  abbrev pub key_at : List (Option T) → ℕ → Option (List ℕ)
  key_at items id = option_map key_of (at items id)

  -- the slot of the record that has the key, or none if no record has it
  abbrev pub IsSlotOf : List (Option T) → List ℕ → Option ℕ → Type 0
  IsSlotOf items key found = (id : ℕ) → (found ≡ Some id) ↔ (key_at items id ≡ Some key)

  -- no record has the key
  abbrev pub IsAbsent : List (Option T) → List ℕ → Type 0
  IsAbsent items key = (id : ℕ) → key_at items id ≢ Some key

  -- each key but this one has the slot that it had, or none as before
  abbrev pub KeepsOtherSlots : List ℕ → List (Option T) → List (Option T) → Type 0
  KeepsOtherSlots key old new = (other : List ℕ) (found : Option ℕ) → other ≢ key → IsSlotOf old other found → IsSlotOf new other found

-- the record has gone into the slot, which was free
abbrev pub IsRecordMade : {T : Type 0} → T → List (Option T) → List (Option T) → ℕ → Type 0
IsRecordMade item old new id = IsFree old id × (new ≡ slice_set old id (Some item))
