use Rattle.pc_model.proofs.SessionCallLaws.{idle_is_answered}
use Rattle.pc_latch.proofs.OwnReading.{is_known}
use Rattle.pc_shared.proofs.session.told_idle.Goals as goal

pub returns-clause-answered : goal.returns-clause-answered
returns-clause-answered g c =
    let s = c.number.ensures.session in
    idle_is_answered g.N.StoreName.name.setting c.args.seat.now.number c.args.seat.now.seen (is_known g.N.StoreName.name.setting c.args.seat.now s) c.requires s.legal
