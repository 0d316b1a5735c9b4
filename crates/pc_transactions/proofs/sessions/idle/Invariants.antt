use Rattle.std.proofs.Common.{◌≡◌, None, replicate}
use Rattle.pc_transactions.specs.Sessions.{actives_of}
use Rattle.pc_transactions.proofs.sessions.idle.Given as goal

-- that many lanes so far
abbrev pub invariant-loop : goal.invariant-loop
invariant-loop l = (actives_of l.lanes.items ≡ replicate l.counter None)
