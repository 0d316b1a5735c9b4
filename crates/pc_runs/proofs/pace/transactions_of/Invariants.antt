use Rattle.std.proofs.Common.{◌≡◌, ◌-◌, ◌^◌, min, take}
use Rattle.std.specs.List.{sum_by}
use Rattle.pc_runs.specs.Pace.{most_in}
use Rattle.pc_runs.proofs.pace.transactions_of.Given as goal

-- those of the clients so far
abbrev pub invariant-loop-client : goal.invariant-loop-client
invariant-loop-client l = l.count ≡ min (sum_by most_in (take l.client-index l.clients)) (2 ^ 32 - 1)
