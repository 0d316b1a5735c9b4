use Rattle.std.proofs.Common.{◌≡◌, rules, sym, ◌∙◌}
use Rattle.pc_jobs.specs.declared.workloads.WorkloadReading.TheVariants.{Runs}
use Rattle.pc_jobs.specs.Workloads.{phrases_in, reading_of}
use Rattle.pc_jobs.proofs.ReadLemmas.{read_written}
use Rattle.pc_jobs.proofs.workloads.read_workload.Goals as goal

pub returns-in_ok-workload_of-in-None-clause-written : goal.returns-in_ok-workload_of-in-None-clause-written
returns-in_ok-workload_of-in-None-clause-written c =
    let same : Runs c.in_ok-workload_of-in-None.field-0 ≡ reading_of c.args.text.now = search rules in
    λ workload is. read_written (phrases_in c.args.text.now) workload (sym same ∙ is)
