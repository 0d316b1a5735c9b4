use Rattle.std.proofs.Common.{◌≡◌, map, drop}
use Rattle.pc_slots.specs.Slots.{undone}
use Rattle.pc_records.specs.Floor.{IsFloorWhole, with_slot_changed, at_writes}
use Rattle.pc_records.proofs.records.undo_all.Given as goal

-- what is left to do of the writes does the rest
abbrev pub invariant-loop-write : goal.invariant-loop-write
invariant-loop-write l = record {
  whole : IsFloorWhole l.slots;
  capacity : l.slots.capacity ≡ l.fn.slots.capacity;
  opened : l.slots.opened ≡ l.fn.slots.opened;
  closed : l.slots.closed ≡ l.fn.slots.closed;
  rest : map (at_writes (with_slot_changed (undone l.point)) (drop l.write-index l.writes)) l.slots.spots ≡ map (at_writes (with_slot_changed (undone l.point)) l.writes) l.fn.slots.spots;
}
