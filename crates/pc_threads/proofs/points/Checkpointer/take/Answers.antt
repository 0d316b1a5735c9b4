use Rattle.std.proofs.Common.{◌≡◌, ◌+◌, true, [], subst, sym, arith}
use Rattle.std.specs.Prelude.{is_some}
use Rattle.std.proofs.lemmas.Result.{err_from_is_err_and}
use Rattle.pc_model.specs.History.{History, point_of}
use Rattle.pc_workers.specs.Checkpointing.{HasCycled}
use Rattle.pc_workers.proofs.WholeCycles.{cycled_on}
use Rattle.pc_threads.specs.Files.{RefusedBy}
use Rattle.pc_threads.proofs.FullLaws.{few_files, few_phases, full_stops}
use Rattle.pc_threads.proofs.PointLaws.{other_stop, refused_stop}
use Rattle.pc_threads.proofs.StopLaws.{more_end}
use Rattle.pc_threads.proofs.points.Checkpointer.take.Goals as goal
use Rattle.pc_threads.proofs.points.Checkpointer.take.Goals.{in-Some+in_ok-write_point-in-Some, in-None}

pub returns-clause-refusals : goal.returns-clause-refusals
returns-clause-refusals g c name why is =
    let refuses = g.D.NewFiles.refuses in
    elim c.match-folder-2.branch [
      | in-Some+in_ok-write_point-in-Some w ↦
          subst (λ folder. RefusedBy refuses folder name why) (sym w.in-Some.is)
          (w.write_point.ensures.refusals name why (subst (λ folder. RefusedBy refuses folder name why) w.folder-is is))
      | in-None w ↦ absurd (subst (λ folder. RefusedBy refuses folder name why) w.folder-is is)
    ]

pub returns-in-Err-clause-ended : goal.returns-in-Err-clause-ended
returns-in-Err-clause-ended g c before next few cycled =
    let st = g.N.StoreName.name.setting in
    let e = c.in-Err.ensures in
    let at : point_of c.args.self.at_store ≡ 0 + before = cycled.at_point in
    let stop = c.in-Err.stop in
    let old = c.args.self.at_store in
    let seat = c.checkpoint_loop.new.seat in
    let there = is_some c.args.self.folder in
    refused_stop (RefusedBy g.D.NewFiles.refuses c.args.self.folder) st there c.args.point stop seat c.fault_of.result c.fault_of.ensures e.shown
    (few_phases st before c.args.point old seat _ _ _ next cycled e.broken_off)
    (λ other.
    full_stops st seat stop.seen 0 c.args.point (point_of old + 1) stop.why (omega (arith, at, next))
    (few_files st before c.args.point old seat _ _ _ next few cycled e.broken_off) e.full other)

pub returns-in_err-write_point-in-Some-clause-ended : goal.returns-in_err-write_point-in-Some-clause-ended
returns-in_err-write_point-in-Some-clause-ended g c before next few cycled =
    let st = g.N.StoreName.name.setting in
    let p = err_from_is_err_and c.from_residual.result c.from_residual.ensures.1 in
    let seat : History = c.checkpoint_loop.new.seat in
    let one : HasCycled st 1 c.args.self.at_store seat = subst (λ n. HasCycled st n c.args.self.at_store seat) c.in-Ok.ensures.points c.in-Ok.ensures.cycled in
    let now : HasCycled st c.args.point [] seat = subst (λ n. HasCycled st n [] seat) next (cycled_on st before [] c.args.self.at_store seat cycled one) in
    let given = c.in_err-write_point-in-Some.field-0.0 in
    let refuses = g.D.NewFiles.refuses c.in-Some.folder in
    let end = c.in_err-write_point-in-Some.ensures.ended (omega (arith, next)) now in
    rw (p.1, c.in-Some.is) (other_stop refuses st true c.args.point given p.0 p.2 (more_end refuses true true 0 0 0 c.args.point given (λ there. there) (omega arith) (omega arith) end))
