use Rattle.std.proofs.Common.{◌≡◌, [], ap, ◌∙◌, subst}
use Rattle.std.specs.Prelude.{IfSome}
use Rattle.pc_tie.proofs.Milestones.{lifted}
use Rattle.pc_tie.proofs.milestone.Milestone.take.Goals as goal

pub into_badge-requires : goal.into_badge-requires
into_badge-requires g c =
    let s = subst (λ o. IfSome o (λ seat. (seat.table_id ≡ c.self.inside.perch.table_id) × (seat.me ≡ (c.self.inside.perch.view, [])))) c.in-Some.is c.take-seat.ensures.seat in
    ap (λ m. m.1) s.1

pub invariant_of-result : goal.invariant_of-result
invariant_of-result g c =
    let s = subst (λ o. IfSome o (λ seat. (seat.table_id ≡ c.self.inside.perch.table_id) × (seat.me ≡ (c.self.inside.perch.view, [])))) c.in-Some.is c.take-seat.ensures.seat in
    let e = c.into_badge.ensures in
    let l = lifted c.into_badge.result.views c.in-Some.seat.me.0 c.self.inside.perch.view e.2 (ap (λ m. m.0) s.1) c.self.invariant.1 in
    ((e.0 ∙ (s.0 ∙ c.self.invariant.0), l.0), l.1)

pub returns-in-Some : goal.returns-in-Some
returns-in-Some g c =
    let s = subst (λ o. IfSome o (λ seat. (seat.table_id ≡ c.self.inside.perch.table_id) × (seat.me ≡ (c.self.inside.perch.view, [])))) c.in-Some.is c.take-seat.ensures.seat in
    (lifted c.into_badge.result.views c.in-Some.seat.me.0 c.self.inside.perch.view c.into_badge.ensures.2 (ap (λ m. m.0) s.1) c.self.invariant.1).2 ∙ c.self.view_is
