use Rattle.std.proofs.Common.{◌≡◌, ◌++◌, drop, map}
use Rattle.pc_points.specs.Points.{parts_to}
use Rattle.pc_points.proofs.parts.parts_to.Given as goal

-- the parts kept so far, and those that are kept of the parts left
abbrev pub invariant-loop-part : goal.invariant-loop-part
invariant-loop-part l = map (λ part. part.now) l.kept.items ++ parts_to l.fn.point (map (λ part. part.now) (drop l.part-index l.parts)) ≡ parts_to l.fn.point (map (λ part. part.now) l.parts)
