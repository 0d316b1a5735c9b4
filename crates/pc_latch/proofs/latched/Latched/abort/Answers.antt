use Rattle.pc_types.specs.declared.Event.TheVariants.{Abort}
use Rattle.pc_latch.proofs.Asking.{asked}
use Rattle.pc_latch.proofs.latched.Latched.abort.Goals as goal

pub returns-clause-asked : goal.returns-clause-asked
returns-clause-asked g c =
    let hist = c.self.inside.keeper.history in
    let stands = c.self.invariant.1 in
    asked g.N.StoreName.name.setting c.self.inside.world c.abort-answer.new.self hist c.number-number.result c.args.session.now c.note.new.session (λ n. Abort n) _ c.abort-step.result c.abort-step.ensures c.number-number.ensures.number stands c.self.invariant.2 (c.abort-answer.ensures.follows hist stands) c.note.ensures.knew c.note.ensures.number c.note.ensures.moves
