use Rattle.std.proofs.Common.{arith}
use Rattle.pc_shared.proofs.GoneOutLaws.{out_by}
use Rattle.pc_shared.proofs.gone_out.GoneOut.compare.Goals as goal

pub returns-clause-out : goal.returns-clause-out
returns-clause-out g c number order some =
    out_by g.N.StoreName.out g.N.StoreName.name.setting.run c.args.session.now.seen c.self.inside.seen c.self.inside.count number c.meet.ensures.one c.self.invariant.1 (omega (arith, order, c.self.view_is)) some
