use Rattle.std.proofs.Common.{◌≡◌, ◌≤◌, length, All}
use Rattle.bench_steps.proofs.points.take_points.Given as goal

abbrev pub invariant-loop : goal.invariant-loop
invariant-loop g l = record { cycles : length l.done.items ≡ l.counter; taken : All (λ cycle. cycle.taken ≤ l.fn.cycles.keys) l.done.items }
