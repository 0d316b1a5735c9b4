use Rattle.pc_part.proofs.RangePointLaws.{one_pushed}
use Rattle.pc_part.proofs.ranges.push_points.Goals as goal

pub loop-n-preserved : goal.loop-n-preserved
loop-n-preserved c = one_pushed c.args.points.now.items c.loop-n.points.items c.push.new.self.items c.args.low c.loop-n.n c.loop-n.invariant c.in_ok-push.ensures.items
