use Rattle.pc_types.specs.declared.Event.TheVariants.{Begin}
use Rattle.pc_latch.proofs.Asking.{asked}
use Rattle.pc_latch.proofs.latched.Latched.begin.Goals as goal

pub returns-clause-asked : goal.returns-clause-asked
returns-clause-asked g c =
    let hist = c.self.inside.keeper.history in
    let stands = c.self.invariant.1 in
    asked g.N.StoreName.name.setting c.self.inside.world c.begin-answer.new.self hist c.number-number.result c.args.session.now c.note.new.session (λ n. Begin n) _ c.begin-step.result c.begin-step.ensures c.number-number.ensures.number stands c.self.invariant.2 (c.begin-answer.ensures.follows hist stands) c.note.ensures.knew c.note.ensures.number c.note.ensures.moves
