use Rattle.std.specs.Int.{w64}
use Rattle.std.proofs.Common.{to_z, of_z}
use Rattle.std.proofs.lemmas.Int.{to_z-of_z}
use Rattle.pc_types.specs.declared.Event.TheVariants.{Add}
use Rattle.pc_latch.proofs.Asking.{asked}
use Rattle.pc_latch.proofs.latched.Latched.add.Goals as goal

pub returns-clause-asked : goal.returns-clause-asked
returns-clause-asked g c =
    let hist = c.self.inside.keeper.history in
    let stands = c.self.invariant.1 in
    rw (to_z-of_z w64 c.args.delta c.ranges.delta) at (asked g.N.StoreName.name.setting c.self.inside.world c.add-answer.new.self hist c.number-number.result c.args.session.now c.note.new.session (λ n. Add n c.args.key.now (to_z w64 (of_z w64 c.args.delta))) _ c.add-step.result c.add-step.ensures c.number-number.ensures.number stands c.self.invariant.2 (c.add-answer.ensures.follows hist stands) c.note.ensures.knew c.note.ensures.number c.note.ensures.moves)
