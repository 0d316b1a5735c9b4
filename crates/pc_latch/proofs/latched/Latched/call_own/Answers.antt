use Rattle.std.proofs.Common.{◌∷◌, ◌∙◌, subst}
use Rattle.pc_model.specs.Headline.{TakesPointValue}
use Rattle.pc_model.specs.Replies.{Setting, IsLegal, IsLegalHistory}
use Rattle.pc_model.specs.Calls.{step_of}
use Rattle.pc_latch.proofs.Calling.{called}
use Rattle.pc_latch.proofs.latched.Latched.call_own.Goals as goal

pub returns-clause-called : goal.returns-clause-called
returns-clause-called g c =
    let hist = c.self.inside.keeper.history in
    let event = c.args.event in
    let reply = c.step-reply.result in
    let stands = c.self.invariant.1 in
    let is = c.self.invariant.2 in
    let follows = c.step-reply.ensures.follows hist stands in
    let noted = c.note_own.ensures in
    called g.N.StoreName.name.setting hist c.args.checkpointer.now c.note_own.new.checkpointer event reply c.of-step.result c.of-step.ensures (subst (λ (t : Setting). IsLegalHistory t hist) is stands.legal)
    (subst (λ (t : Setting). IsLegal t hist event reply) is follows.legal)
    (subst (λ (t : Setting). TakesPointValue t.base (step_of event reply ∷ hist)) (c.step-reply.ensures.setting ∙ is) follows.stands.values) noted.knew noted.sees noted.moves
