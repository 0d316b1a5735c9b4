use Rattle.std.proofs.Common.{◌≡◌, ◌++◌}
use Rattle.pc_part.specs.Parts.{points_from}
use Rattle.pc_part.proofs.ranges.push_points.Given as goal

-- the points so far
abbrev pub invariant-loop-n : goal.invariant-loop-n
invariant-loop-n l = l.points.items ≡ l.fn.points.items ++ points_from l.fn.low l.n
