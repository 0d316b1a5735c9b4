use Rattle.pc_records.specs.Floor.{IsFloorWhole, AreSpotsSound, HasNoPendingWrite, IsFloorReleased, standing}
use Rattle.std.proofs.Common.{ℕ}
use Rattle.pc_records.proofs.records.release.Given as goal

-- what is released in the end is what was to be released
abbrev pub invariant-loop-transaction : goal.invariant-loop-transaction
invariant-loop-transaction l = record {
  whole : IsFloorWhole l.slots;
  left : (point : ℕ) → AreSpotsSound point l.fn.slots.spots → HasNoPendingWrite l.transaction l.fn.slots.spots → IsFloorReleased point l.transaction l.fn.slots l.slots;
}

-- the transaction has fewer requests
abbrev pub decreases-loop-transaction : goal.decreases-loop-transaction
decreases-loop-transaction l = standing l.transaction l.slots.spots
