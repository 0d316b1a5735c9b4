-- Slots: what the rows of the table have, each with its number and its key. The requests of a slot are the queue at its number.
use Rattle.std.specs.Prelude.{◌≡◌, ℕ, ◌+◌, ◌≤◌, ◌==◌, List, [], ◌∷◌, map, Option, Some, None, if◌then◌else◌}
use Rattle.pc_model.specs.Database.{KeysRise}
use Rattle.pc_locks.specs.States.{Queues, queue_at}
use Rattle.pc_dirty.specs.declared.side.Side.{Side}
use Rattle.pc_dirty.specs.declared.side.Side.TheVariants.{First}
use Rattle.pc_table.specs.Rows.{TableRow}
use Rattle.pc_slots.specs.declared.cells.Cell.{Cell}
use Rattle.pc_slots.specs.Slots.{Slot, slot_with, base_cell, committed, pinned, Pending, pending_in}
use Rattle.pc_records.specs.Rows.{Row}
use Rattle.pc_records.specs.Tables.{RecordsView}

-- the slot in a row of the table
abbrev pub slot_in : Side → TableRow Cell → Slot
slot_in side row = slot_with side row.1.0 row.0 row.1.1

-- the slots in the rows of the table
abbrev pub slots_in : Side → List (TableRow Cell) → List Slot
slots_in side rows = map (slot_in side) rows

-- what the rows of the table keep of their keys
abbrev pub cells_in : List (TableRow Cell) → List (List ℕ × Cell)
cells_in rows = map (λ row. (row.0, row.1.1)) rows

-- what is kept of a pair's key, which has its value committed and nothing else
abbrev pub base_row : List ℕ × List ℕ → List ℕ × Cell
base_row pair = (pair.0, base_cell (Some pair.1))

-- no slot has a request
abbrev pub no_queues : Queues
no_queues slot = []

-- the row in a slot, given the queue of each number
abbrev pub row_of : Queues → Slot → Row
row_of queues slot = (slot.key, record { value = committed slot; is_in_open_set = slot.is_in_open_set; is_in_closed_set = slot.is_in_closed_set; pinned = pinned slot; requests = queue_at queues slot.number })

-- the rows in the slots
abbrev pub rows_of : Queues → List Slot → List Row
rows_of queues slots = map (row_of queues) slots

-- the entries with this one before them, if there is one
abbrev pub with_optional_entry : {X : Type 0} → List ℕ → Option X → List (List ℕ × X) → List (List ℕ × X)
with_optional_entry key None entries = entries
with_optional_entry key (Some x) entries = (key, x) ∷ entries

-- what the slots have of something, by key
abbrev pub slot_entries : {X : Type 0} → (Slot → Option X) → List Slot → List (List ℕ × X)
slot_entries f [] = []
slot_entries f (slot ∷ slots) = with_optional_entry slot.key (f slot) (slot_entries f slots)

-- what each slot's key has that is committed, a value or absence
abbrev pub contents_of : List Slot → List (List ℕ × Option (List ℕ))
contents_of slots = map (λ slot. (slot.key, committed slot)) slots

-- the entry of what a slot has committed, which may have no row
abbrev pub content_in : Option (List ℕ × Cell) → List (List ℕ × Option (List ℕ))
content_in None = []
content_in (Some p) = (p.0, committed (slot_with First 0 [] p.1)) ∷ []

-- the committed pairs of the slots
abbrev pub committed_pairs : List Slot → List (List ℕ × List ℕ)
committed_pairs slots = slot_entries committed slots

-- the writes of open transactions in the slots
abbrev pub pending_of : List Slot → List (List ℕ × Pending)
pending_of slots = slot_entries pending_in slots

-- what is seen of slots, given the queue of each number, the point of the last closed set, and the keys of the two sets
abbrev pub table_of : ℕ → Queues → List Slot → ℕ → List (List ℕ) → List (List ℕ) → RecordsView
table_of capacity queues slots point opened shut = record { capacity = capacity; rows = rows_of queues slots; pending = pending_of slots; point = point; opened = opened; shut = shut }

-- the numbers of the slots
abbrev pub numbers_of : List Slot → List ℕ
numbers_of slots = map (λ slot. slot.number) slots

-- how often the number occurs in the list
abbrev pub times : ℕ → List ℕ → ℕ
times n [] = 0
times n (m ∷ ms) = if m == n then times n ms + 1 else times n ms

-- what slots and queues keep: the keys ascend, each slot has a number of its own, and a number that no slot has has no request
pub record AreSlotsKept (slots : List Slot) (queues : Queues) : Type 0 where
  pub rise : KeysRise (rows_of no_queues slots)
  pub once : (n : ℕ) → times n (numbers_of slots) ≤ 1
  pub bare : (n : ℕ) → times n (numbers_of slots) ≡ 0 → queue_at queues n ≡ []

-- the slot changed, if it has the number
abbrev pub at_number : (Slot → Slot) → ℕ → Slot → Slot
at_number f number slot = if slot.number == number then f slot else slot
