-- The two sets in the slots of a table: which slots are in them, and in which order.
use Rattle.std.specs.Prelude.{◌≡◌, ℕ, ◌==◌, ◌||◌, ◌&&◌, not, Bool, false, List, [], ◌∷◌, map, Option, Some, None, is_some, if◌then◌else◌}
use Rattle.std.specs.List.{list_any}
use Rattle.pc_dirty.specs.declared.side.SideSlot.{SideSlot}
use Rattle.pc_dirty.specs.declared.side.Side.{Side}
use Rattle.pc_dirty.specs.declared.dirty.Dirty.{Dirty}
use Rattle.pc_dirty.specs.Sets.{other_side, AreSets, opened_of, closed_of}
use Rattle.pc_table.specs.Rows.{TableRow, Contents, in_slot, HasRow}
use Rattle.pc_slots.specs.declared.cells.Cell.{Cell}
use Rattle.pc_slots.specs.Slots.{writer_in}
use Rattle.pc_slots.specs.Words.{Word, cell_words, is_marked, link_of, unlinked}

-- the slot has a row, and so a link on each side
abbrev pub HasPlace : List (TableRow Cell) → SideSlot → Type 0
HasPlace rows place = HasRow rows place.slot

-- what the link of a slot with a row leads to
abbrev pub link_in : Side → Option (List ℕ × Cell) → Option SideSlot
link_in side None = None
link_in side (Some p) = link_of side p.1

-- what the link of the place leads to
abbrev pub next_in : List (TableRow Cell) → SideSlot → Option SideSlot
next_in rows place = link_in place.side (in_slot rows place.slot)

-- a slot with a row is marked on the side
abbrev pub marked_in : Side → Option (List ℕ × Cell) → Bool
marked_in side None = false
marked_in side (Some p) = is_marked side p.1

-- the key of a slot with a row
abbrev pub key_in : Option (List ℕ × Cell) → List ℕ
key_in None = []
key_in (Some p) = p.0

-- the keys of the slots
abbrev pub keys_at : List (TableRow Cell) → List ℕ → List (List ℕ)
keys_at rows slots = map (λ slot. key_in (in_slot rows slot)) slots

-- the slot is one of these
abbrev pub is_among_slots : List ℕ → ℕ → Bool
is_among_slots slots slot = list_any (λ x. x == slot) slots

-- the sets are these two lists, which the links lead along, and each slot is marked if and only if it is in the list
pub record AreSetLists (rows : List (TableRow Cell)) (sets : Dirty) (opened closed : List ℕ) : Type 0 where
  pub linked : AreSets (HasPlace rows) (next_in rows) sets opened closed
  pub open_marks : (slot : ℕ) → marked_in sets.side (in_slot rows slot) ≡ is_among_slots opened slot
  pub closed_marks : (slot : ℕ) → marked_in (other_side sets.side) (in_slot rows slot) ≡ is_among_slots closed slot

-- the slots of the open set, and of the closed one, in the order of first addition
abbrev pub open_slots : List (TableRow Cell) → Dirty → List ℕ
open_slots rows sets = opened_of (next_in rows) sets

abbrev pub closed_slots : List (TableRow Cell) → Dirty → List ℕ
closed_slots rows sets = closed_of (next_in rows) sets

-- the same of the slots that the links lead along
abbrev pub IsListed : List (TableRow Cell) → Dirty → Type 0
IsListed rows sets = AreSetLists rows sets (open_slots rows sets) (closed_slots rows sets)

-- the keys of the open set, and of the closed one
abbrev pub open_keys : List (TableRow Cell) → Dirty → List (List ℕ)
open_keys rows sets = keys_at rows (open_slots rows sets)

abbrev pub closed_keys : List (TableRow Cell) → Dirty → List (List ℕ)
closed_keys rows sets = keys_at rows (closed_slots rows sets)

-- what the sets have of a slot: its key and its words, if it is in one of them
abbrev pub in_sets : Option (List ℕ × Cell) → Option (List ℕ × (Word × Word))
in_sets None = None
in_sets (Some p) = if p.1.first.is_in || p.1.second.is_in then Some (p.0, cell_words p.1) else None

-- the sets have of each slot what they had
pub record KeepSets (old new : List (TableRow Cell)) : Type 0 where
  pub same : (slot : ℕ) → in_sets (in_slot new slot) ≡ in_sets (in_slot old slot)

-- each slot has its key and its links still
pub record KeepLinks (old new : List (TableRow Cell)) : Type 0 where
  pub row : (slot : ℕ) → is_some (in_slot new slot) ≡ is_some (in_slot old slot)
  pub key : (slot : ℕ) → key_in (in_slot new slot) ≡ key_in (in_slot old slot)
  pub link : (side : Side) (slot : ℕ) → link_in side (in_slot new slot) ≡ link_in side (in_slot old slot)

-- each slot has its key and its links still, and this one isn't in the closed set any more; all other marks stay
pub record IsUnmarked (side : Side) (id : ℕ) (old new : List (TableRow Cell)) : Type 0 where
  pub links : KeepLinks old new
  pub open_marks : (slot : ℕ) → marked_in side (in_slot new slot) ≡ marked_in side (in_slot old slot)
  pub closed_marks : (slot : ℕ) → marked_in (other_side side) (in_slot new slot) ≡ (if slot == id then false else marked_in (other_side side) (in_slot old slot))

-- the row without its links
abbrev pub unlinked_row : TableRow Cell → TableRow Cell
unlinked_row row = (row.0, (row.1.0, unlinked row.1.1))

-- all but the links is in the second table as it was in the first
pub record KeepRecords (old new : Contents Cell) : Type 0 where
  pub capacity : new.capacity ≡ old.capacity
  pub rows : map unlinked_row new.rows ≡ map unlinked_row old.rows

-- the key of a slot that goes into the open set once its write is committed: it has a writer, and isn't in the set
abbrev pub entering : Side → Option (List ℕ × Cell) → List (List ℕ)
entering side None = []
entering side (Some p) = if is_some (writer_in p.1) && not (is_marked side p.1) then p.0 ∷ [] else []
