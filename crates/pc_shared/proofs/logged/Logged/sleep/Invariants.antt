use Rattle.std.proofs.Common.{◌≡◌}
use Rattle.pc_shared.proofs.logged.Logged.sleep.Given as goal

-- the session's seat is unchanged
abbrev pub invariant-loop : goal.invariant-loop
invariant-loop g l = l.session ≡ l.fn.session
