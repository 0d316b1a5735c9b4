use Rattle.std.proofs.Common.{sym, ◌∙◌, subst}
use Rattle.pc_types.specs.declared.Event.TheVariants.{Begin}
use Rattle.pc_answers.specs.Replies.{begin_reply}
use Rattle.pc_tie.specs.declared.sight.Sitting.{Sitting}
use Rattle.pc_latch.specs.Asked.{IsAsked}
use Rattle.pc_shared.proofs.Calling.{begin_told, still}
use Rattle.pc_shared.proofs.store.Shared.begin_as.Goals as goal

pub loop-preserved : goal.loop-preserved
loop-preserved g c =
    still g.N.StoreName.name.setting c.loop.seat c.begin-answer.new.session _ (begin_reply c.begin-answer.result) (sym (c.is_begin_waiting.ensures) ∙ c.if-is_begin_waiting.true) c.begin-answer.ensures.asked ∙ c.loop.invariant

pub returns-else-is_begin_waiting : goal.returns-else-is_begin_waiting
returns-else-is_begin_waiting g c =
    let st = g.N.StoreName.name.setting in
    let asked = subst (λ (s : Sitting). IsAsked st s (Begin s.number) (begin_reply c.begin-answer.result) c.begin-answer.new.session) c.loop.invariant c.begin-answer.ensures.asked in
    let told = begin_told st c.args.seat.now c.begin-answer.new.session c.begin-answer.result (sym c.is_begin_waiting.ensures ∙ c.if-is_begin_waiting.false) asked in
    rw c.number_in.ensures (record { number = asked.number; call = told.0; refused = told.1; no_wait = told.2; same = told.3 })
