use Rattle.std.proofs.Common.{ℕ, List, [], Option, subst}
use Rattle.pc_jobs.specs.declared.works.Op.{Op}
use Rattle.pc_workers.specs.Attempts.{IsAttempt}
use Rattle.pc_workers.specs.Clients.{HasCommitted, done_by, wrote_all}
use Rattle.pc_workers.specs.Courses.{IsRepeated}
use Rattle.pc_workers.specs.declared.clients.EndedTransaction.TheVariants.{Died}
use Rattle.pc_model.specs.History.{is_open}
use Rattle.pc_model.proofs.BeginningLaws.{beginning_trans}
use Rattle.std.specs.Prelude.{◌≡◌, false, is_some}
use Rattle.pc_workers.specs.Waits.{HasWaited}
use Rattle.pc_workers.proofs.AttemptLaws.{tried_once, tried_again}
use Rattle.pc_workers.proofs.WaitLaws.{keeps_then}
use Rattle.pc_workers.proofs.clients.try_job.Goals as goal

pub returns-in-Died-clause-tried : goal.returns-in-Died-clause-tried
returns-in-Died-clause-tried g c = λ idle.
    let st = g.N.StoreName.name.setting in
    let s = c.args.session.now.number in
    let old = c.args.session.now.seen in
    let between = c.attempt.new.session in
    let new = c.repeat.new.session.seen in
    tried_again st s c.args.job.now c.repeat.result old between.seen new between.number c.attempt.ensures.receipts.number idle
    (subst (λ (ops : List Op). IsAttempt st s ops Died old between.seen) c.as_slice-ops.ensures (c.in-Died.ensures.attempt idle))
    (subst (λ (ops : List Op). is_open between.number between.seen ≡ false → IsRepeated st between.number ops c.repeat.result between.seen new) c.as_slice-ops.ensures c.repeat.ensures.repeated)

pub returns-in-Died-clause-begins : goal.returns-in-Died-clause-begins
returns-in-Died-clause-begins g c = beginning_trans c.args.session.now.seen c.attempt.new.session.seen c.repeat.new.session.seen c.attempt.ensures.begins c.repeat.ensures.begins

pub returns-in-Died-clause-mark : goal.returns-in-Died-clause-mark
returns-in-Died-clause-mark g c = keeps_then _ _ _ _ c.in-Died.ensures.mark c.repeat.ensures.mark

pub returns-in-Died-clause-held : goal.returns-in-Died-clause-held
returns-in-Died-clause-held g c = λ committed.
    subst (λ (o : Option ℕ). HasWaited g.N.StoreName.out g.N.StoreName.name.setting o (is_some c.repeat.new.patience.log_end) c.repeat.new.session) c.in-Died.ensures.lag (c.repeat.ensures.held committed)

pub returns-in_default : goal.returns-in_default
returns-in_default g c =
    let st = g.N.StoreName.name.setting in
    let s = c.args.session.now.number in
    let old = c.args.session.now in
    let new = c.attempt.new.session in
    record {
      receipts = subst (λ (ops : List Op). HasCommitted (done_by c.attempt.result (wrote_all [] ops)) old new) c.as_slice-ops.ensures c.attempt.ensures.receipts;
      begins = c.attempt.ensures.begins;
      tried = λ idle. tried_once st s c.args.job.now c.attempt.result old.seen new.seen idle (subst (λ (ops : List Op). IsAttempt st s ops c.attempt.result old.seen new.seen) c.as_slice-ops.ensures (c.attempt.ensures.attempt idle)) c.in_default.not-Died;
      lag = c.attempt.ensures.lag;
      mark = c.attempt.ensures.mark;
      held = c.attempt.ensures.held;
    }
