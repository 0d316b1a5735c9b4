use Rattle.std.proofs.Common.{◌≡◌, ◌∙◌, false, List, take, refl, subst, arith, rules}
use Rattle.std.specs.Prelude.{is_some}
use Rattle.std.proofs.lemmas.List.{take_all}
use Rattle.pc_jobs.specs.declared.works.Job.{Job}
use Rattle.pc_workers.specs.Clients.{HasTried, job_writes}
use Rattle.pc_workers.proofs.ClientJobs.{tried_next}
use Rattle.pc_workers.proofs.RunLaws.{no_jobs_tried}
use Rattle.pc_workers.proofs.WaitLaws.{next_held, none_held}
use Rattle.pc_workers.proofs.clients.client_loop.Goals as goal

pub loop-job-preserved : goal.loop-job-preserved
loop-job-preserved g c =
    record {
      tried =
          tried_next g.N.StoreName.name.setting c.args.jobs.now c.loop-job.job-index c.job-item.result c.loop-job.count.commits c.args.session.now c.loop-job.session c.run-ended.new.session c.loop-job-test.true c.job-item.is
          c.loop-job.invariant.tried c.run-ended.result c.note.new.self.commits c.run-ended.ensures.receipts c.note.ensures.commits c.run-ended.ensures.tried;
      all = search rules;
      lag = c.run-ended.ensures.lag ∙ c.loop-job.invariant.lag;
      held =
          next_held g.N.StoreName.out g.N.StoreName.name.setting c.args.lag c.loop-job.patience.lag (is_some c.loop-job.patience.log_end) (is_some c.run-ended.new.patience.log_end) c.loop-job.session c.run-ended.new.session
          c.run-ended.result (job_writes c.job-item.result) c.loop-job.count.commits c.note.new.self.commits c.loop-job.invariant.lag c.run-ended.ensures.mark.stays c.run-ended.ensures.receipts c.run-ended.ensures.begins c.run-ended.ensures.held
          c.note.ensures.commits c.loop-job.invariant.held;
      ours = c.run-ended.ensures.mark.ours c.loop-job.invariant.ours;
    }

pub loop-job-init : goal.loop-job-init
loop-job-init g c = record { tried = no_jobs_tried g.N.StoreName.name.setting c.args.session.now; all = refl; lag = refl; held = none_held g.N.StoreName.out g.N.StoreName.name.setting c.args.lag false c.args.session.now; ours = tt }

pub returns-clause-tried : goal.returns-clause-tried
returns-clause-tried g c =
    let whole : take c.loop-job.job-index c.args.jobs.now ≡ c.args.jobs.now = take_all c.loop-job.job-index c.args.jobs.now (omega (arith, c.loop-job-test.false)) in
    subst (λ (js : List Job). HasTried g.N.StoreName.name.setting js c.loop-job.count.commits c.args.session.now c.loop-job.session) whole c.loop-job.invariant.tried
