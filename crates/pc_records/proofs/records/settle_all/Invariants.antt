use Rattle.std.proofs.Common.{◌≡◌, ◌++◌, map, drop}
use Rattle.pc_slots.specs.Slots.{settled}
use Rattle.pc_records.specs.Floor.{IsFloorWhole, with_slot_changed, at_writes, newly_opened_keys}
use Rattle.pc_records.proofs.records.settle_all.Given as goal

-- what is left to do of the writes does the rest
abbrev pub invariant-loop-write : goal.invariant-loop-write
invariant-loop-write l = record {
  whole : IsFloorWhole l.slots;
  capacity : l.slots.capacity ≡ l.fn.slots.capacity;
  closed : l.slots.closed ≡ l.fn.slots.closed;
  opened : l.slots.opened ++ newly_opened_keys l.slots.spots (drop l.write-index l.writes) ≡ l.fn.slots.opened ++ newly_opened_keys l.fn.slots.spots l.writes;
  rest : map (at_writes (with_slot_changed (settled l.point)) (drop l.write-index l.writes)) l.slots.spots ≡ map (at_writes (with_slot_changed (settled l.point)) l.writes) l.fn.slots.spots;
}
