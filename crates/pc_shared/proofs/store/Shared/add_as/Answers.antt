use Rattle.std.specs.Int.{w64}
use Rattle.std.proofs.lemmas.Int.{to_z-of_z}
use Rattle.std.proofs.Common.{sym, ◌∙◌, subst}
use Rattle.pc_types.specs.declared.Event.TheVariants.{Add}
use Rattle.pc_answers.specs.Replies.{add_reply}
use Rattle.pc_tie.specs.declared.sight.Sitting.{Sitting}
use Rattle.pc_latch.specs.Asked.{IsAsked}
use Rattle.pc_shared.proofs.Calling.{add_told, still}
use Rattle.pc_shared.proofs.store.Shared.add_as.Goals as goal

pub loop-preserved : goal.loop-preserved
loop-preserved g c =
    still g.N.StoreName.name.setting c.loop.seat c.add-answer.new.session _ (add_reply c.add-answer.result) (sym (c.is_add_waiting.ensures) ∙ c.if-is_add_waiting.true) c.add-answer.ensures.asked ∙ c.loop.invariant

pub returns-else-is_add_waiting : goal.returns-else-is_add_waiting
returns-else-is_add_waiting g c =
    let st = g.N.StoreName.name.setting in
    let asked = subst (λ (s : Sitting). IsAsked st s (Add s.number c.args.key.now c.args.delta) (add_reply c.add-answer.result) c.add-answer.new.session) c.loop.invariant (rw (to_z-of_z w64 c.args.delta c.ranges.delta) at c.add-answer.ensures.asked) in
    let told = add_told st c.args.seat.now c.add-answer.new.session _ c.add-answer.result (sym c.is_add_waiting.ensures ∙ c.if-is_add_waiting.false) asked in
    rw c.sum_in.ensures (record { number = asked.number; call = told.0; refused = told.1; no_wait = told.2; same = told.3 })
