use Rattle.std.proofs.Common.{sym, ◌∙◌, subst}
use Rattle.pc_types.specs.declared.Event.TheVariants.{Abort}
use Rattle.pc_answers.specs.Replies.{abort_reply}
use Rattle.pc_tie.specs.declared.sight.Sitting.{Sitting}
use Rattle.pc_latch.specs.Asked.{IsAsked}
use Rattle.pc_shared.proofs.Calling.{abort_told, still}
use Rattle.pc_shared.proofs.store.Shared.abort_as.Goals as goal

pub loop-preserved : goal.loop-preserved
loop-preserved g c =
    still g.N.StoreName.name.setting c.loop.seat c.abort-answer.new.session _ (abort_reply c.abort-answer.result) (sym (c.is_abort_waiting.ensures) ∙ c.if-is_abort_waiting.true) c.abort-answer.ensures.asked ∙ c.loop.invariant

pub returns-else-is_abort_waiting : goal.returns-else-is_abort_waiting
returns-else-is_abort_waiting g c =
    let st = g.N.StoreName.name.setting in
    let asked = subst (λ (s : Sitting). IsAsked st s (Abort s.number) (abort_reply c.abort-answer.result) c.abort-answer.new.session) c.loop.invariant c.abort-answer.ensures.asked in
    let told = abort_told st c.args.seat.now c.abort-answer.new.session c.abort-answer.result (sym c.is_abort_waiting.ensures ∙ c.if-is_abort_waiting.false) asked in
    rw c.end_in.ensures (record { number = asked.number; call = told.0; refused = told.1; no_wait = told.2; same = told.3 })
