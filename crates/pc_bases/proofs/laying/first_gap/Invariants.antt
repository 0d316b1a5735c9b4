use Rattle.std.proofs.Common.{◌≡◌, ◌+◌, drop}
use Rattle.pc_bases.proofs.GapLaws.{gap_in}
use Rattle.pc_bases.proofs.laying.first_gap.Given as goal

-- no gap so far
abbrev pub invariant-loop-range : goal.invariant-loop-range
invariant-loop-range l = gap_in l.next (drop l.range-index l.ranges) ≡ gap_in (l.fn.point + 1) l.ranges
