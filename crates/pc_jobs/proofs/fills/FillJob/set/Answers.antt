use Rattle.std.proofs.Common.{List, [], ◌∷◌, ap, ◌∙◌}
use Rattle.pc_jobs.specs.declared.works.Job.{Job}
use Rattle.pc_jobs.specs.declared.works.Op.{Op}
use Rattle.pc_jobs.specs.declared.works.Op.TheVariants.{Put}
use Rattle.pc_jobs.proofs.FillLaws.{set_only}
use Rattle.pc_jobs.proofs.fills.FillJob.set.Goals as goal

pub returns-clause-job : goal.returns-clause-job
returns-clause-job c =
    let job : List Op → Job = λ ops. record { ops = ops } in
    ap job (c.set.ensures ∙ set_only c.self.inside.job.ops (Put c.in_ok-key.key c.in_ok-value.value) c.self.invariant ∙ (λ k. Put (c.in_ok-key.ensures.key k) (c.in_ok-value.ensures.copy k) ∷ []))
