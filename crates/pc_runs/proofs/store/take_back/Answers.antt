use Rattle.std.proofs.Common.{◌+◌, [], length, ap, arith}
use Rattle.pc_types.specs.declared.Phase.TheVariants.{Rest}
use Rattle.pc_workers.specs.Checkpointing.{whole_cycles}
use Rattle.pc_workers.proofs.WholeCycles.{done_since, points_of_cycles}
use Rattle.pc_runs.proofs.store.take_back.Goals as goal

pub with_missing_points-requires-clause-legal : goal.with_missing_points-requires-clause-legal
with_missing_points-requires-clause-legal g c = c.requires.cycles.legal tt

pub with_missing_points-requires-clause-done : goal.with_missing_points-requires-clause-done
with_missing_points-requires-clause-done g c =
    let points = c.args.points in
    let done = ap length (done_since g.N.StoreName.name.setting (whole_cycles 0 points) Rest (0 + points) [] c.args.rested.worked.seat c.requires.cycles) in
    let count = points_of_cycles 0 points in
    omega (arith, done, count)
