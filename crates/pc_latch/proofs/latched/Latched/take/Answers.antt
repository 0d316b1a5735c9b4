use Rattle.std.proofs.Common.{◌∷◌, ◌∙◌, subst}
use Rattle.pc_types.specs.declared.Event.TheVariants.{Take}
use Rattle.pc_model.specs.Headline.{TakesPointValue}
use Rattle.pc_model.specs.Replies.{Setting, IsLegal, IsLegalHistory}
use Rattle.pc_model.specs.Calls.{step_of}
use Rattle.pc_answers.specs.Replies.{take_reply}
use Rattle.pc_latch.proofs.Calling.{called}
use Rattle.pc_latch.proofs.latched.Latched.take.Goals as goal

pub returns-clause-called : goal.returns-clause-called
returns-clause-called g c =
    let hist = c.self.inside.keeper.history in
    let reply = take_reply c.take-answer.result in
    let stands = c.self.invariant.1 in
    let is = c.self.invariant.2 in
    let follows = c.take-answer.ensures.follows hist stands in
    let noted = c.note_own.ensures in
    called g.N.StoreName.name.setting hist c.args.checkpointer.now c.note_own.new.checkpointer Take reply c.take-step.result c.take-step.ensures (subst (λ (t : Setting). IsLegalHistory t hist) is stands.legal)
    (subst (λ (t : Setting). IsLegal t hist Take reply) is follows.legal)
    (subst (λ (t : Setting). TakesPointValue t.base (step_of Take reply ∷ hist)) (c.take-answer.ensures.setting ∙ is) follows.stands.values) noted.knew noted.sees noted.moves
