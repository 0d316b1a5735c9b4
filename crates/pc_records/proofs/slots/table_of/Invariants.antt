use Rattle.std.proofs.Common.{◌≡◌, map, take}
use Rattle.pc_records.specs.Slots.{cells_in, base_row}
use Rattle.pc_records.proofs.slots.table_of.Given as goal

-- the slots of the pairs so far
abbrev pub invariant-loop-pair : goal.invariant-loop-pair
invariant-loop-pair l = record {
  capacity : l.table.capacity ≡ l.capacity;
  cells : cells_in l.table.rows ≡ map base_row (take l.pair-index l.pairs);
}
