use Rattle.std.proofs.Common.{◌≡◌}
use Rattle.pc_shared.proofs.store.Shared.get_as.Given as goal

abbrev pub invariant-loop : goal.invariant-loop
invariant-loop g l = l.seat ≡ l.fn.seat
