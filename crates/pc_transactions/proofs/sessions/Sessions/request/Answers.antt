use Rattle.std.proofs.Common.{◌≡◌, ◌∙◌, Option, ap, sym}
use Rattle.pc_types.specs.declared.Mode.TheVariants.{Exclusive}
use Rattle.pc_types.specs.declared.Outcome.TheVariants.{Granted}
use Rattle.pc_model.specs.Locks.{outcome}
use Rattle.pc_records.specs.Rows.{record_of, requests_on}
use Rattle.pc_records.specs.NewKeys.{is_one_too_many}
use Rattle.pc_transactions.specs.Sessions.{actives_of, number_in, writes_in}
use Rattle.std.proofs.lemmas.Result.{err_from_is_err_and}
use Rattle.pc_transactions.specs.InPlace.{at_place}
use Rattle.pc_transactions.specs.Actives.{Active}
use Rattle.pc_transactions.proofs.SessionLemmas.{inside_of, seen_at, opened_before, unchanged, answered_by}
use Rattle.pc_transactions.proofs.OngoingLaws.{answered_view, own_again, request_stands, seen_with}
use Rattle.pc_transactions.proofs.sessions.Sessions.request.Goals as goal

pub invariant_of-self : goal.invariant_of-self
invariant_of-self c =
    let inside = inside_of c.self.inside.lanes.items (rw (← c.place.ensures, ← c.self.view_is) at c.requires.place) in
    rw (unchanged c.self.inside.lanes.items c.args.session c.place.result c.index_mut-lane.result.now c.place.ensures inside c.index_mut-lane.ensures.value c.reserve.new.self c.reserve.ensures.same) c.self.invariant

pub returns-in_default-clause-same : goal.returns-in_default-clause-same
returns-in_default-clause-same c =
    let inside = inside_of c.self.inside.lanes.items (rw (← c.place.ensures, ← c.self.view_is) at c.requires.place) in
    ap (seen_with c.self.inside.records c.self.inside.phases c.self.inside.begun) (unchanged c.self.inside.lanes.items c.args.session c.place.result c.index_mut-lane.result.now c.place.ensures inside c.index_mut-lane.ensures.value c.reserve.new.self c.reserve.ensures.same) ∙ c.self.view_is

pub opened-number-requires : goal.opened-number-requires
opened-number-requires c =
    let inside = inside_of c.self.inside.lanes.items (rw (← c.place.ensures, ← c.self.view_is) at c.requires.place) in
    rw (c.reserve.ensures.same, seen_at c.self.inside.lanes.items c.args.session c.place.result c.index_mut-lane.result.now c.place.ensures inside c.index_mut-lane.ensures.value) (rw (← c.self.view_is) at c.requires.opened)

pub write-requires-clause-again : goal.write-requires-clause-again
write-requires-clause-again c =
    let inside = inside_of c.self.inside.lanes.items (rw (← c.place.ensures, ← c.self.view_is) at c.requires.place) in
    let own = opened_before c.self.inside.lanes.items c.args.session c.place.result c.index_mut-lane.result.now c.place.ensures inside c.index_mut-lane.ensures.value c.reserve.new.self _ c.reserve.ensures.same c.opened-number.ensures in
    own_again _ _ _ _ c.self.invariant c.place.result _ own c.args.write.key

pub invariant_of-self-in_err-outcome : goal.invariant_of-self-in_err-outcome
invariant_of-self-in_err-outcome c =
    let inside = inside_of c.self.inside.lanes.items (rw (← c.place.ensures, ← c.self.view_is) at c.requires.place) in
    rw (c.in_err-outcome.ensures.err, unchanged c.self.inside.lanes.items c.args.session c.place.result c.index_mut-lane.result.now c.place.ensures inside c.index_mut-lane.ensures.value c.reserve.new.self c.reserve.ensures.same) c.self.invariant

pub returns-in_err-outcome-clause-same : goal.returns-in_err-outcome-clause-same
returns-in_err-outcome-clause-same c =
    let inside = inside_of c.self.inside.lanes.items (rw (← c.place.ensures, ← c.self.view_is) at c.requires.place) in
    let same = unchanged c.self.inside.lanes.items c.args.session c.place.result c.index_mut-lane.result.now c.place.ensures inside c.index_mut-lane.ensures.value c.reserve.new.self c.reserve.ensures.same in
    let p = err_from_is_err_and c.from_residual.result c.from_residual.ensures.1 in
    rw p.1 (rw c.in_err-outcome.ensures.err (ap (seen_with c.self.inside.records c.self.inside.phases c.self.inside.begun) same ∙ c.self.view_is))

pub answered-requires-clause-opened : goal.answered-requires-clause-opened
answered-requires-clause-opened c =
    let inside = inside_of c.self.inside.lanes.items (rw (← c.place.ensures, ← c.self.view_is) at c.requires.place) in
    rw (c.reserve.ensures.same, seen_at c.self.inside.lanes.items c.args.session c.place.result c.index_mut-lane.result.now c.place.ensures inside c.index_mut-lane.ensures.value) (rw (← c.self.view_is) at c.requires.opened)

pub answered-requires-clause-merges : goal.answered-requires-clause-merges
answered-requires-clause-merges c =
    let inside = inside_of c.self.inside.lanes.items (rw (← c.place.ensures, ← c.self.view_is) at c.requires.place) in
    let own = opened_before c.self.inside.lanes.items c.args.session c.place.result c.index_mut-lane.result.now c.place.ensures inside c.index_mut-lane.ensures.value c.reserve.new.self _ c.reserve.ensures.same c.opened-number.ensures in
    let told : c.in_ok-outcome.field-0.outcome ≡ Granted → outcome (requests_on (record_of c.self.inside.records.rows c.args.write.key)) (number_in (at_place (actives_of c.self.inside.lanes.items) c.place.result)) Exclusive ≡ Granted =
    (λ granted. ap (λ (a : Option Active). outcome (requests_on (record_of c.self.inside.records.rows c.args.write.key)) (number_in a) Exclusive) own ∙ sym c.in_ok-outcome.ensures.told ∙ granted) in
    rw (c.reserve.ensures.same, seen_at c.self.inside.lanes.items c.args.session c.place.result c.index_mut-lane.result.now c.place.ensures inside c.index_mut-lane.ensures.value)
    (λ granted. (rw (← c.self.view_is) at c.requires.merges) (rw c.place.ensures at (told granted)))

pub invariant_of-self-2 : goal.invariant_of-self-2
invariant_of-self-2 c =
    let inside = inside_of c.self.inside.lanes.items (rw (← c.place.ensures, ← c.self.view_is) at c.requires.place) in
    let own = opened_before c.self.inside.lanes.items c.args.session c.place.result c.index_mut-lane.result.now c.place.ensures inside c.index_mut-lane.ensures.value c.reserve.new.self _ c.reserve.ensures.same c.opened-number.ensures in
    let then = answered_by c.self.inside.lanes.items c.args.session c.place.result c.index_mut-lane.result.now c.place.ensures inside c.index_mut-lane.ensures.value c.reserve.new.self c.answered.new.self c.args.write c.in_ok-outcome.field-0.outcome c.reserve.ensures.same c.answered.ensures in
    let told : c.in_ok-outcome.field-0.outcome ≡ Granted → outcome (requests_on (record_of c.self.inside.records.rows c.args.write.key)) (number_in (at_place (actives_of c.self.inside.lanes.items) c.place.result)) Exclusive ≡ Granted =
    (λ granted. ap (λ (a : Option Active). outcome (requests_on (record_of c.self.inside.records.rows c.args.write.key)) (number_in a) Exclusive) own ∙ sym c.in_ok-outcome.ensures.told ∙ granted) in
    request_stands _ _ _ _ c.self.invariant _ _ c.place.result _ c.args.write c.args.value _ (rw (← c.place.ensures, ← c.self.view_is) at c.requires.place) own (sym (ap (λ (a : Option Active). is_one_too_many (writes_in a) c.args.write.key) own) ∙ rw (← c.place.ensures, ← c.self.view_is) at c.requires.one) (λ granted. (rw (← c.place.ensures, ← c.self.view_is) at c.requires.applies) (told granted)) (λ granted. (rw (← c.place.ensures, ← c.self.view_is) at c.requires.left) (told granted)) then
    c.in_ok-outcome.ensures.written.rows c.in_ok-outcome.ensures.written.pending c.in_ok-outcome.ensures.written.clear c.in_ok-outcome.ensures.written.point c.in_ok-outcome.ensures.written.opened c.in_ok-outcome.ensures.written.shut

pub returns-clause-answered : goal.returns-clause-answered
returns-clause-answered c =
    let inside = inside_of c.self.inside.lanes.items (rw (← c.place.ensures, ← c.self.view_is) at c.requires.place) in
    let own = opened_before c.self.inside.lanes.items c.args.session c.place.result c.index_mut-lane.result.now c.place.ensures inside c.index_mut-lane.ensures.value c.reserve.new.self _ c.reserve.ensures.same c.opened-number.ensures in
    let then = answered_by c.self.inside.lanes.items c.args.session c.place.result c.index_mut-lane.result.now c.place.ensures inside c.index_mut-lane.ensures.value c.reserve.new.self c.answered.new.self c.args.write c.in_ok-outcome.field-0.outcome c.reserve.ensures.same c.answered.ensures in
    rw (← c.self.view_is) (answered_view c.self.inside.records c.write-2.new.self c.self.inside.phases c.self.inside.begun _ _ c.args.session c.place.result _ c.args.write _ c.place.ensures own then c.in_ok-outcome.ensures.written.rows c.in_ok-outcome.ensures.written.opened c.in_ok-outcome.ensures.written.shut)
