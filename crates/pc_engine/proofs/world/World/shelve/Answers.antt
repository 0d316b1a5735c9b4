use Rattle.std.proofs.Common.{rules, length}
use Rattle.pc_phase.specs.declared.change.Change.TheVariants as change
use Rattle.pc_engine.proofs.Held.{begun_outside_rest}
use Rattle.pc_transactions.proofs.HeldBack.{is_free}
use Rattle.pc_engine.proofs.world.World.shelve.Goals as goal

pub of_taken-requires-clause-point : goal.of_taken-requires-clause-point
of_taken-requires-clause-point c =
    let phases = c.self.inside.sessions.phases in
    let free = is_free phases change.Done (length c.self.inside.sessions.closed_set) (search rules) in
    begun_outside_rest phases.phase _ free.in_phase c.point-point.ensures.begun
