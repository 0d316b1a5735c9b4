-- A slot whose mark is set.
use Rattle.std.proofs.Common.{◌≡◌, ℕ, List, true, refl}
use Rattle.pc_dirty.specs.declared.side.Side.{Side}
use Rattle.pc_dirty.specs.declared.side.Side.TheVariants.{First, Second}
use Rattle.pc_slots.specs.declared.cells.Cell.{Cell}
use Rattle.pc_slots.specs.Words.{with_mark}
use Rattle.pc_slots.specs.Slots.{slot_with}

-- a slot that is marked on the side of the open set
pub slot_marked : (side : Side) (number : ℕ) (key : List ℕ) (x : Cell) → slot_with side number key (with_mark side true x) ≡ record (slot_with side number key x) { is_in_open_set = true }
slot_marked First number key x = refl
slot_marked Second number key x = refl
