use Rattle.std.proofs.Common.{◌+◌, ◌≤◌, max}
use Rattle.pc_recover.proofs.Reaching.{NotedBelow}
use Rattle.pc_recover.proofs.reach.note_range.Given as goal

-- the points below this place are noted
abbrev pub invariant-loop-place : goal.invariant-loop-place
invariant-loop-place l = record {
  noted : NotedBelow l.fn.range.low l.place l.fn.top l.fn.tops l.tops;
  ends : l.place ≤ max l.fn.range.low (l.fn.range.high + 1);
}
