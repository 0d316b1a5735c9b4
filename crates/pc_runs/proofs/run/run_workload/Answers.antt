use Rattle.std.proofs.Common.{ℕ, List, subst}
use Rattle.pc_runs.specs.Runs.{IsRunTold}
use Rattle.pc_runs.proofs.run.run_workload.Goals as goal

pub returns-clause-cause : goal.returns-clause-cause
returns-clause-cause g c failed = (
  c.run_opened.new.errors,
  c.in-Err.ensures.cause,
  subst (λ (name : List ℕ). IsRunTold g.E.Write.contents c.run_opened.new.errors c.report.new.errors name c.in-Err.failure) c.deref.ensures.value c.report.ensures,
)
