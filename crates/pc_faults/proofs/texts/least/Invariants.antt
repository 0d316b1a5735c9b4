use Rattle.std.proofs.Common.{◌≡◌, ◌-◌, ◌<◌, ◌≤◌, true, false, length, take}
use Rattle.pc_faults.specs.Faults.{fault_at, is_short}
use Rattle.pc_faults.proofs.texts.least.Given as goal

abbrev pub invariant-loop-high : goal.invariant-loop-high
invariant-loop-high l = record {
  order : l.low < l.high;
  within : l.high ≤ length l.bytes;
  seen : is_short (fault_at l.kind (take l.high l.bytes)) ≡ false;
  before : is_short (fault_at l.kind (take l.low l.bytes)) ≡ true;
}

abbrev pub decreases-loop-high : goal.decreases-loop-high
decreases-loop-high l = l.high - l.low
