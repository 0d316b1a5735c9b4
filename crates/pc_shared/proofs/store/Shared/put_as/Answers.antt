use Rattle.std.proofs.Common.{sym, ◌∙◌, subst}
use Rattle.pc_types.specs.declared.Event.TheVariants.{Put}
use Rattle.pc_answers.specs.Replies.{write_reply}
use Rattle.pc_tie.specs.declared.sight.Sitting.{Sitting}
use Rattle.pc_latch.specs.Asked.{IsAsked}
use Rattle.pc_shared.proofs.Calling.{write_told, still}
use Rattle.pc_shared.proofs.store.Shared.put_as.Goals as goal

pub loop-preserved : goal.loop-preserved
loop-preserved g c =
    still g.N.StoreName.name.setting c.loop.seat c.put-answer.new.session _ (write_reply c.put-answer.result) (sym (c.is_write_waiting.ensures) ∙ c.if-is_write_waiting.true) c.put-answer.ensures.asked ∙ c.loop.invariant

pub returns-else-is_write_waiting : goal.returns-else-is_write_waiting
returns-else-is_write_waiting g c =
    let st = g.N.StoreName.name.setting in
    let asked = subst (λ (s : Sitting). IsAsked st s (Put s.number c.args.key.now c.args.value.now) (write_reply c.put-answer.result) c.put-answer.new.session) c.loop.invariant c.put-answer.ensures.asked in
    let told = write_told st c.args.seat.now c.put-answer.new.session _ c.put-answer.result (sym c.is_write_waiting.ensures ∙ c.if-is_write_waiting.false) asked in
    rw c.made_in.ensures (record { number = asked.number; call = told.0; refused = told.1; no_wait = told.2; same = told.3 })
