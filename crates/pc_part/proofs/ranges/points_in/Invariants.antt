use Rattle.std.proofs.Common.{◌≡◌, ◌++◌, drop}
use Rattle.pc_part.specs.Parts.{points_in}
use Rattle.pc_part.proofs.ranges.points_in.Given as goal

-- the points of the ranges so far
abbrev pub invariant-loop-range : goal.invariant-loop-range
invariant-loop-range l = l.points.items ++ points_in (drop l.range-index l.ranges) ≡ points_in l.ranges
