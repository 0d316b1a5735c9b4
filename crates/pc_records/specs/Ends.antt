-- The ends of the slots' queues, which are in the slots of a table.
use Rattle.std.specs.Prelude.{◌≡◌, ℕ, List, Option, Some, None, is_some}
use Rattle.pc_chain.specs.declared.chain.Chain.{Chain}
use Rattle.pc_locks.specs.Lines.{no_chain}
use Rattle.pc_locks.specs.States.{Queues}
use Rattle.pc_locks.specs.Keepers as keepers
use Rattle.pc_dirty.specs.declared.side.Side.{Side}
use Rattle.pc_table.specs.Rows.{TableRow, Contents, in_slot}
use Rattle.pc_slots.specs.declared.cells.Cell.{Cell}
use Rattle.pc_records.specs.Slots.{slots_in}
use Rattle.pc_records.specs.SetLists.{KeepSets}
use Rattle.pc_slots.specs.Words.{chain_in}

-- the ends in a slot; those of an empty queue if it has no row
abbrev pub ends_of : Option (List ℕ × Cell) → Chain ℕ
ends_of None = no_chain
ends_of (Some p) = chain_in p.1

-- the ends of each slot's queue
abbrev pub ends_in : List (TableRow Cell) → ℕ → Chain ℕ
ends_in rows slot = ends_of (in_slot rows slot)

-- the queue of each slot
abbrev pub queues_in : List (TableRow Cell) → keepers.KeptRequests → Queues
queues_in rows locks = keepers.queues_of (ends_in rows) locks

-- all but the ends is in the second table as it was in the first
pub record KeepSlots (old new : Contents Cell) : Type 0 where
  pub capacity : new.capacity ≡ old.capacity
  pub row : (slot : ℕ) → is_some (in_slot new.rows slot) ≡ is_some (in_slot old.rows slot)
  pub slots : (side : Side) → slots_in side new.rows ≡ slots_in side old.rows
  pub sets : KeepSets old.rows new.rows
