use Rattle.std.proofs.Common.{◌≡◌}
use Rattle.pc_shared.specs.Sitters.{new_sitters}
use Rattle.pc_shared.proofs.store.Opened.named.Given as goal

-- this many sessions' seats were dealt
abbrev pub invariant-loop : goal.invariant-loop
invariant-loop g l = (l.dealer ≡ l.counter) × (l.sessions.items ≡ new_sitters l.counter)
