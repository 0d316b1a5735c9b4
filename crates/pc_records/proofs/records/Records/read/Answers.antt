use Rattle.std.proofs.Common.{◌∙◌, ap, sym, subst, cond, Bool}
use Rattle.pc_types.specs.declared.Mode.TheVariants.{Shared}
use Rattle.pc_types.specs.declared.Refusal.TheVariants.{Full, OutOfMemory}
use Rattle.pc_records.specs.RowSteps.{is_waiting_in_rows}
use Rattle.pc_records.specs.Tables.{RecordsView}
use Rattle.pc_records.specs.Floor.{Floor, AreSpotsSound, table_on}
use Rattle.pc_records.proofs.SpotLaws.{found}
use Rattle.pc_records.proofs.SpotAnswers.{waits_same, told_there, latest_there, clear_there, told_new, latest_new, clear_new, table_asked, table_first, sound_answered, sound_first, full, full_there, full_new, ran_out, refused_same, on_err}
use Rattle.pc_records.proofs.records.Records.read.Goals as goal

pub request-requires-clause-ready : goal.request-requires-clause-ready
request-requires-clause-ready c =
    waits_same c.args.transaction c.self.inside.slots.spots ∙ ap (λ (k : RecordsView). is_waiting_in_rows k.rows c.args.transaction) c.self.view_is ∙ c.requires.ready

pub request_new-requires-clause-ready : goal.request_new-requires-clause-ready
request_new-requires-clause-ready c =
    waits_same c.args.transaction c.self.inside.slots.spots ∙ ap (λ (k : RecordsView). is_waiting_in_rows k.rows c.args.transaction) c.self.view_is ∙ c.requires.ready

pub request_new-requires-clause-new : goal.request_new-requires-clause-new
request_new-requires-clause-new c =
    sym c.in-None.ensures.found

pub invariant_of-self : goal.invariant_of-self
invariant_of-self c =
    (c.request.ensures.whole, sound_answered c.self.inside.point c.args.transaction Shared c.self.inside.slots c.request.new.self c.args.key.now c.in-Some.id c.request.result c.request.ensures.asked c.request.ensures.same c.self.invariant.1)

pub invariant_of-self-in-Some : goal.invariant_of-self-in-Some
invariant_of-self-in-Some c =
    (c.request.ensures.whole, sound_answered c.self.inside.point c.args.transaction Shared c.self.inside.slots c.request.new.self c.args.key.now c.in-Some.id c.request.result c.request.ensures.asked c.request.ensures.same c.self.invariant.1)

pub invariant_of-self-in_err-request_new-in-None : goal.invariant_of-self-in_err-request_new-in-None
invariant_of-self-in_err-request_new-in-None c =
    (c.request_new.ensures.whole, subst (λ (f : Floor). AreSpotsSound c.self.inside.point f.spots) (sym c.in_err-request_new-in-None.ensures.same) c.self.invariant.1)

pub invariant_of-self-in-None : goal.invariant_of-self-in-None
invariant_of-self-in-None c =
    (c.request_new.ensures.whole, sound_first c.self.inside.point c.args.transaction Shared c.self.inside.slots c.request_new.new.slots c.args.key.now c.in_ok-request_new-in-None.field-0 (sym c.in-None.ensures.found) c.in_ok-request_new-in-None.ensures.made c.self.invariant.1 c.in_ok-request_new-in-None.ensures.asked)

pub returns-in_ok-outcome-in-Some-clause-told : goal.returns-in_ok-outcome-in-Some-clause-told
returns-in_ok-outcome-in-Some-clause-told c =
    let f = found c.self.inside.slots c.args.key.now c.in-Some.id c.self.invariant.0 (sym c.in-Some.ensures.found) in
    rw (← c.self.view_is) (told_there c.self.inside.slots c.self.invariant.0 c.args.key.now c.in-Some.id f.0 f.1 c.args.transaction Shared c.in_ok-outcome-in-Some.outcome c.in_ok-outcome-in-Some.ensures.told)

pub returns-in_ok-outcome-in-Some-clause-found : goal.returns-in_ok-outcome-in-Some-clause-found
returns-in_ok-outcome-in-Some-clause-found c =
    let f = found c.self.inside.slots c.args.key.now c.in-Some.id c.self.invariant.0 (sym c.in-Some.ensures.found) in
    rw (← c.self.view_is) (c.in_ok-found-in-Some.ensures ∙ latest_there c.self.inside.slots c.self.invariant.0 c.args.key.now c.in-Some.id f.0 f.1)

pub returns-in_ok-outcome-in-Some-clause-rows : goal.returns-in_ok-outcome-in-Some-clause-rows
returns-in_ok-outcome-in-Some-clause-rows c =
    rw (← c.self.view_is) (table_asked c.self.inside.point c.args.transaction Shared c.self.inside.slots c.request.new.self c.args.key.now c.in-Some.id c.in_ok-outcome-in-Some.outcome c.self.invariant.0 (sym c.in-Some.ensures.found) c.in_ok-outcome-in-Some.ensures.asked)

pub returns-in_ok-outcome-in-Some-clause-clear : goal.returns-in_ok-outcome-in-Some-clause-clear
returns-in_ok-outcome-in-Some-clause-clear c =
    let f = found c.self.inside.slots c.args.key.now c.in-Some.id c.self.invariant.0 (sym c.in-Some.ensures.found) in
    rw (← c.self.view_is) (clear_there c.self.inside.slots c.self.invariant.0 c.args.key.now c.in-Some.id f.0 f.1 c.self.inside.point c.args.transaction c.self.invariant.1 (waits_same c.args.transaction c.self.inside.slots.spots ∙ ap (λ (k : RecordsView). is_waiting_in_rows k.rows c.args.transaction) c.self.view_is ∙ c.requires.ready) Shared c.in_ok-outcome-in-Some.outcome c.in_ok-outcome-in-Some.ensures.told)

pub returns-in_ok-outcome-in-Some-clause-room : goal.returns-in_ok-outcome-in-Some-clause-room
returns-in_ok-outcome-in-Some-clause-room c =
    rw (← c.self.view_is) (full_there c.self.inside.slots c.args.key.now c.in-Some.id (sym c.in-Some.ensures.found))

pub returns-in_err-found-in-Some-clause-refusal : goal.returns-in_err-found-in-Some-clause-refusal
returns-in_err-found-in-Some-clause-refusal c =
    rw (← c.self.view_is) (refused_same c.from_residual.result OutOfMemory (cond (full c.self.inside.slots c.args.key.now) Full OutOfMemory) c.from_residual.ensures (ran_out c.self.inside.slots c.args.key.now (full_there c.self.inside.slots c.args.key.now c.in-Some.id (sym c.in-Some.ensures.found))))

pub returns-in_err-outcome-in-Some-clause-refusal : goal.returns-in_err-outcome-in-Some-clause-refusal
returns-in_err-outcome-in-Some-clause-refusal c =
    rw (← c.self.view_is) (refused_same c.from_residual-in_err-outcome-in-Some.result OutOfMemory (cond (full c.self.inside.slots c.args.key.now) Full OutOfMemory) c.from_residual-in_err-outcome-in-Some.ensures (ran_out c.self.inside.slots c.args.key.now (full_there c.self.inside.slots c.args.key.now c.in-Some.id (sym c.in-Some.ensures.found))))

pub returns-in_err-outcome-in-Some-clause-err : goal.returns-in_err-outcome-in-Some-clause-err
returns-in_err-outcome-in-Some-clause-err c =
    rw (← c.self.view_is) (on_err c.from_residual-in_err-outcome-in-Some.result (ap (table_on c.self.inside.point) c.in_err-outcome-in-Some.ensures.same))

pub returns-in_err-request_new-in-None-clause-err : goal.returns-in_err-request_new-in-None-clause-err
returns-in_err-request_new-in-None-clause-err c =
    rw (← c.self.view_is) (on_err c.from_residual-in_err-request_new-in-None.result (ap (table_on c.self.inside.point) c.in_err-request_new-in-None.ensures.same))

pub returns-in_err-request_new-in-None-clause-refusal : goal.returns-in_err-request_new-in-None-clause-refusal
returns-in_err-request_new-in-None-clause-refusal c =
    rw (← c.self.view_is) (refused_same c.from_residual-in_err-request_new-in-None.result c.in_err-request_new-in-None.field-0.0 (cond (full c.self.inside.slots c.args.key.now) Full OutOfMemory) c.from_residual-in_err-request_new-in-None.ensures
    (c.in_err-request_new-in-None.ensures.refusal ∙ ap (λ (b : Bool). cond b Full OutOfMemory) (sym (full_new c.self.inside.slots c.args.key.now (sym c.in-None.ensures.found)))))

pub returns-in_ok-request_new-in-None-clause-told : goal.returns-in_ok-request_new-in-None-clause-told
returns-in_ok-request_new-in-None-clause-told c =
    rw (← c.self.view_is) (told_new c.self.inside.slots c.args.key.now (sym c.in-None.ensures.found) c.args.transaction Shared)

pub returns-in_ok-request_new-in-None-clause-found : goal.returns-in_ok-request_new-in-None-clause-found
returns-in_ok-request_new-in-None-clause-found c =
    rw (← c.self.view_is) (latest_new c.self.inside.slots c.args.key.now (sym c.in-None.ensures.found) c.self.invariant.0.rise)

pub returns-in_ok-request_new-in-None-clause-rows : goal.returns-in_ok-request_new-in-None-clause-rows
returns-in_ok-request_new-in-None-clause-rows c =
    rw (← c.self.view_is) (table_first c.self.inside.point c.args.transaction Shared c.self.inside.slots c.request_new.new.slots c.args.key.now c.in_ok-request_new-in-None.field-0 (sym c.in-None.ensures.found) c.in_ok-request_new-in-None.ensures.made c.in_ok-request_new-in-None.ensures.asked)

pub returns-in_ok-request_new-in-None-clause-clear : goal.returns-in_ok-request_new-in-None-clause-clear
returns-in_ok-request_new-in-None-clause-clear c =
    rw (← c.self.view_is) (λ granted. clear_new c.self.inside.slots c.args.key.now (sym c.in-None.ensures.found) c.self.invariant.0.rise c.self.inside.point c.args.transaction)

pub returns-in_ok-request_new-in-None-clause-room : goal.returns-in_ok-request_new-in-None-clause-room
returns-in_ok-request_new-in-None-clause-room c =
    rw (← c.self.view_is) (full_new c.self.inside.slots c.args.key.now (sym c.in-None.ensures.found) ∙ c.in_ok-request_new-in-None.ensures.room)
