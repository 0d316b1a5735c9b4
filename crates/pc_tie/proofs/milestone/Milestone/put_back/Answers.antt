use Rattle.std.proofs.Common.{sym, ◌∙◌}
use Rattle.pc_tie.proofs.Milestones.{is_that_of, seat_is}
use Rattle.pc_tie.proofs.milestone.Milestone.put_back.Goals as goal

pub give-given-requires-clause-seat : goal.give-given-requires-clause-seat
give-given-requires-clause-seat g c =
    let e = c.into_seat-seat.ensures in
    let w = c.witness.invariant in
    let i = c.self.invariant in
    let stands = is_that_of _ c.into_seat-seat.result.me.0 e.2 _ w.0.1 w.1 i.1 (c.witness.view_is ∙ (c.requires ∙ sym c.self.view_is)) in
    (e.0 ∙ (w.0.0 ∙ sym i.0), seat_is c.into_seat-seat.result.me _ stands e.3)
