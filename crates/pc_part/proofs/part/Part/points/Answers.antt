use Rattle.std.proofs.Common.{sym}
use Rattle.pc_part.proofs.RangePointLaws.{items-points_of}
use Rattle.pc_part.proofs.part.Part.points.Goals as goal

pub returns : goal.returns
returns c = rw (← c.self.view_is, c.from_vec.ensures, c.in_ok-points.ensures, c.deref.ensures.value) (sym (items-points_of c.self.inside.ranges.items c.self.invariant.0))
