use Rattle.std.proofs.Common.{◌≡◌, ◌-◌, ◌^◌, min, take}
use Rattle.std.specs.List.{sum_by}
use Rattle.pc_runs.specs.Pace.{transaction_count}
use Rattle.pc_runs.proofs.pace.transactions_in.Given as goal

-- those of the works so far
abbrev pub invariant-loop-work : goal.invariant-loop-work
invariant-loop-work l = l.count ≡ min (sum_by transaction_count (take l.work-index l.works)) (2 ^ 32 - 1)
