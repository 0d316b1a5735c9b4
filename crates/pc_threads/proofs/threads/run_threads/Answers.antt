use Rattle.std.specs.Prelude.{◌||◌, is_some}
use Rattle.std.proofs.lemmas.Result.{err_from_is_err_and}
use Rattle.pc_threads.specs.Clients.{clients_in, transactions_in}
use Rattle.pc_threads.specs.Files.{RefusedBy}
use Rattle.pc_threads.proofs.StopLaws.{left_true, logger_ends, more_stop_of}
use Rattle.pc_threads.proofs.threads.run_threads.Goals as goal

pub returns-in_err-rested-clause-ended : goal.returns-in_err-rested-clause-ended
returns-in_err-rested-clause-ended g c fresh =
    let p = err_from_is_err_and c.from_residual.result c.from_residual.ensures.1 in
    let hands = c.args.hands in
    let writes = is_some c.args.room.now.lag || is_some hands.checkpointer.folder in
    rw (p.1, p.2)
    (more_stop_of (RefusedBy g.D.NewFiles.refuses hands.checkpointer.folder) g.N.StoreName.name.setting writes (writes || is_some c.args.logger.out) (clients_in hands.workers.items) c.args.room.now.points c.in_err-rested.field-0.0
    (left_true writes (is_some c.args.logger.out)) (c.in_err-rested.ensures.ended fresh))

pub returns-in_err-run-clause-ended : goal.returns-in_err-run-clause-ended
returns-in_err-run-clause-ended g c fresh =
    let p = err_from_is_err_and c.from_residual-in_err-run.result c.from_residual-in_err-run.ensures.1 in
    let hands = c.args.hands in
    rw (p.1, p.2)
    (logger_ends (RefusedBy g.D.NewFiles.refuses hands.checkpointer.folder) (is_some c.args.room.now.lag || is_some hands.checkpointer.folder) c.args.logger.out (transactions_in (clients_in hands.workers.items)) c.args.room.now.points c.in_err-run.field-0.0
    c.in_err-run.ensures.stopped)
