use Rattle.std.proofs.Common.{sym, ◌∙◌, subst}
use Rattle.pc_types.specs.declared.Event.TheVariants.{Del}
use Rattle.pc_answers.specs.Replies.{write_reply}
use Rattle.pc_tie.specs.declared.sight.Sitting.{Sitting}
use Rattle.pc_latch.specs.Asked.{IsAsked}
use Rattle.pc_shared.proofs.Calling.{write_told, still}
use Rattle.pc_shared.proofs.store.Shared.del_as.Goals as goal

pub loop-preserved : goal.loop-preserved
loop-preserved g c =
    still g.N.StoreName.name.setting c.loop.seat c.del-answer.new.session _ (write_reply c.del-answer.result) (sym (c.is_write_waiting.ensures) ∙ c.if-is_write_waiting.true) c.del-answer.ensures.asked ∙ c.loop.invariant

pub returns-else-is_write_waiting : goal.returns-else-is_write_waiting
returns-else-is_write_waiting g c =
    let st = g.N.StoreName.name.setting in
    let asked = subst (λ (s : Sitting). IsAsked st s (Del s.number c.args.key.now) (write_reply c.del-answer.result) c.del-answer.new.session) c.loop.invariant c.del-answer.ensures.asked in
    let told = write_told st c.args.seat.now c.del-answer.new.session _ c.del-answer.result (sym c.is_write_waiting.ensures ∙ c.if-is_write_waiting.false) asked in
    rw c.made_in.ensures (record { number = asked.number; call = told.0; refused = told.1; no_wait = told.2; same = told.3 })
