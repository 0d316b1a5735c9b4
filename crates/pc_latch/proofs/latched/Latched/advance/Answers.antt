use Rattle.std.proofs.Common.{ap, ◌∙◌, subst}
use Rattle.pc_types.specs.declared.Event.{Event}
use Rattle.pc_model.specs.History.{phase_of}
use Rattle.pc_latch.specs.Cycles.{next_event, IsCalled}
use Rattle.pc_latch.proofs.Calling.{advanced}
use Rattle.pc_latch.proofs.latched.Latched.advance.Goals as goal

pub returns-clause-called : goal.returns-clause-called
returns-clause-called g c =
    let st = g.N.StoreName.name.setting in
    let hist = c.args.self.now in
    let seen = c.args.checkpointer.now in
    let after = c.call_own.new.checkpointer in
    let reply = c.call_own.result in
    advanced st hist seen after reply c.call_own.ensures.knew
    (subst (λ (e : Event). IsCalled st seen e reply after) (c.next_event-event.ensures ∙ ap next_event (c.phase.ensures ∙ c.self.invariant.1.parts.cycle.phase ∙ ap phase_of c.self.view_is)) c.call_own.ensures.called)
