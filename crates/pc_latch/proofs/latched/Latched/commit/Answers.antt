use Rattle.pc_types.specs.declared.Event.TheVariants.{Commit}
use Rattle.pc_latch.proofs.Asking.{asked}
use Rattle.pc_latch.proofs.latched.Latched.commit.Goals as goal

pub returns-clause-asked : goal.returns-clause-asked
returns-clause-asked g c =
    let hist = c.self.inside.keeper.history in
    let stands = c.self.invariant.1 in
    asked g.N.StoreName.name.setting c.self.inside.world c.commit-answer.new.world hist c.number-number.result c.args.session.now c.note.new.session (λ n. Commit n) _ c.commit-step.result c.commit-step.ensures c.number-number.ensures.number stands c.self.invariant.2 (c.commit-answer.ensures.follows hist stands) c.note.ensures.knew c.note.ensures.number c.note.ensures.moves
