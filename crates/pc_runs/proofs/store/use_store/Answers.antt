use Rattle.std.proofs.Common.{List, subst, ◌∙◌}
use Rattle.std.specs.Prelude.{◌||◌, is_some}
use Rattle.std.proofs.lemmas.Result.{err_from_is_err_and}
use Rattle.pc_jobs.specs.declared.works.Client.{Client}
use Rattle.pc_threads.specs.Clients.{clients_in, transactions_in}
use Rattle.pc_threads.specs.Faults.{ThreadsHaveStopped}
use Rattle.pc_threads.specs.Files.{RefusedBy}
use Rattle.pc_threads.proofs.StopLaws.{memory_stops}
use Rattle.pc_runs.proofs.StopLaws.{idle_stopped}
use Rattle.pc_runs.proofs.store.use_store.Goals as goal

pub returns-in_err-hands-clause-ended : goal.returns-in_err-hands-clause-ended
returns-in_err-hands-clause-ended g c =
    let p = err_from_is_err_and c.from_residual.result c.from_residual.ensures.1 in
    rw (p.1, p.2) tt

pub returns-in-Err-clause-ended : goal.returns-in-Err-clause-ended
returns-in-Err-clause-ended g c =
    let st = g.N.StoreName.name.setting in
    let made = c.in_ok-hands.ensures in
    let stop = c.in-Err.stop in
    let lag = is_some c.args.room.now.lag in
    let out = is_some c.args.logger.out in
    let there = is_some c.args.checkpointer.folder in
    let points = c.args.room.now.points in
    let ended = c.in-Err.ensures.ended (made.seat ∙ c.requires.fresh) in
    let refuses = g.D.NewFiles.refuses in
    idle_stopped (RefusedBy refuses c.args.checkpointer.folder) st (lag || there || out) (clients_in c.args.seating.workers.items) c.args.seating.idle.items points stop c.with_idle.result c.with_idle.ensures
    (subst (λ folder. ThreadsHaveStopped (RefusedBy refuses folder) st (lag || is_some folder || out) (clients_in c.args.seating.workers.items) points stop) made.folder.0
    (subst (λ (workers : List (List Client)). ThreadsHaveStopped (RefusedBy refuses c.in_ok-hands.hands.checkpointer.folder) st (lag || is_some c.in_ok-hands.hands.checkpointer.folder || out) (clients_in workers) points stop) made.workers ended))

pub returns-in_err-ended-clause-ended : goal.returns-in_err-ended-clause-ended
returns-in_err-ended-clause-ended g c =
    let p = err_from_is_err_and c.from_residual-in_err-ended.result c.from_residual-in_err-ended.ensures.1 in
    rw (p.1, p.2) (memory_stops (transactions_in (clients_in c.args.seating.workers.items)) c.args.room.now.points c.in_err-ended.field-0.0 c.in_err-ended.ensures.memory)
