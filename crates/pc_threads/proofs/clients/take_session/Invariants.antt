use Rattle.std.proofs.Common.{◌≡◌, true, All, drop}
use Rattle.pc_shared.specs.Sitters.{has_sitter}
use Rattle.pc_threads.specs.Clients.{IsFresh}
use Rattle.pc_threads.proofs.clients.take_session.Given as goal

abbrev pub invariant-loop-place : goal.invariant-loop-place
invariant-loop-place g l = (l.sessions.items ≡ l.fn.sessions.items) × All IsFresh l.sessions.items × (has_sitter (drop l.place l.sessions.items) l.fn.number ≡ true)
