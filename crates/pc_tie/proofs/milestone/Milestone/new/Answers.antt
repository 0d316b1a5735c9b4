use Rattle.std.proofs.Common.{◌≡◌, sym, ap, ◌∙◌, subst}
use Rattle.pc_tie.specs.declared.sight.Sight.{Sight}
use Rattle.pc_tie.specs.declared.sight.Sight.TheVariants.{Front}
use Rattle.pc_tie.specs.Rules.{a_witness, hist_of}
use Rattle.pc_tie.proofs.Milestones.{is_front, has_seen, seat_is}
use Rattle.pc_tie.proofs.milestone.Milestone.new.Goals as goal

pub give-given-requires-clause-seat : goal.give-given-requires-clause-seat
give-given-requires-clause-seat g c =
    let e = c.into_seat-seat.ensures in
    let p = c.new-perch.ensures in
    (sym p.0, seat_is c.into_seat-seat.result.me c.new-perch.result.view (sym p.1) e.3)

pub invariant_of-result : goal.invariant_of-result
invariant_of-result g c =
    let e = c.into_seat-seat.ensures in
    let p = c.new-perch.ensures in
    let w = c.witness.invariant in
    (p.0 ∙ (e.0 ∙ w.0.0), subst (λ (s : Sight). s ≡ Front a_witness (hist_of s)) (sym p.1) (is_front _ c.into_seat-seat.result.me.0 e.2 w.0.1 w.1))

pub returns : goal.returns
returns g c = ap hist_of c.new-perch.ensures.1 ∙ (has_seen _ c.into_seat-seat.result.me.0 c.into_seat-seat.ensures.2 ∙ c.witness.view_is)
