use Rattle.std.proofs.Common.{◌≡◌, [], replicate}
use Rattle.pc_jobs.proofs.dealing.idle_workers.Given as goal

abbrev pub invariant-loop : goal.invariant-loop
invariant-loop l = l.workers.items ≡ replicate l.counter []
