use Rattle.std.proofs.Common.{◌≡◌, drop}
use Rattle.pc_jobs.specs.Workloads.{closes}
use Rattle.pc_jobs.proofs.workloads.closes.Given as goal

abbrev pub invariant-loop-line : goal.invariant-loop-line
invariant-loop-line l = closes (drop l.line-index l.lines) ≡ closes l.lines
