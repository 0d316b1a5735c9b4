use Rattle.std.proofs.Common.{vec_len}
use Rattle.pc_jobs.proofs.WorkloadLemmas.{Gathers}
use Rattle.pc_jobs.proofs.workloads.workload_of.Given as goal

abbrev pub invariant-loop-line : goal.invariant-loop-line
invariant-loop-line l = Gathers l.fn.lines.items l.lines.items l.gathered

abbrev pub decreases-loop-line : goal.decreases-loop-line
decreases-loop-line l = vec_len l.lines
