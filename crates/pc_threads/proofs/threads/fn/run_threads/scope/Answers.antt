use Rattle.std.proofs.Common.{◌≡◌, ap, subst, ◌∙◌}
use Rattle.std.specs.Prelude.{◌||◌, is_some}
use Rattle.std.proofs.lemmas.Result.{err_from_is_err_and}
use Rattle.pc_threads.specs.Clients.{clients_in, transactions_in}
use Rattle.pc_threads.specs.Faults.{LogHasStopped}
use Rattle.pc_threads.specs.Files.{RefusedBy}
use Rattle.pc_threads.proofs.StopLaws.{logger_ends}
use Rattle.pc_threads.proofs.threads.fn.run_threads.scope.Goals as goal

pub returns-in_err-written : goal.returns-in_err-written
returns-in_err-written g c =
    let p = err_from_is_err_and c.from_residual.result c.from_residual.ensures.1 in
    let hands = c.captures.hands in
    let stop = c.in_err-written.field-0.0 in
    let its : c.in-Ok.logging.promise.0.value.out ≡ c.captures.logger.out = ap (λ promise. promise.0.value.out) c.in-Ok.ensures.ok ∙ ap (λ logger. logger.out) c.of-given.ensures in
    rw (p.1, p.2)
    (record {
      left = tt;
      refusals = tt;
      logged = tt;
      ended = λ fresh.
          logger_ends (RefusedBy g.D.NewFiles.refuses hands.checkpointer.folder) (is_some c.captures.room.now.lag || is_some hands.checkpointer.folder) c.captures.logger.out (transactions_in (clients_in hands.workers.items)) c.captures.room.now.points
          stop (subst (λ log. LogHasStopped log stop) its c.in_err-written.ensures.1);
    })
