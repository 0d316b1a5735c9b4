use Rattle.std.proofs.Common.{ap}
use Rattle.pc_part.proofs.RangePointLaws.{bounds_known}
use Rattle.pc_part.proofs.part.Part.ranges.Goals as goal

pub returns-clause-bounds : goal.returns-clause-bounds
returns-clause-bounds c = bounds_known c.self.inside.ranges.items _ _ c.self.invariant.0 (ap (λ f. f.points) c.self.view_is) c.as_slice.ensures.value
