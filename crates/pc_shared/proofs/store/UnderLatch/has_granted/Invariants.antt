use Rattle.std.proofs.Common.{◌≡◌, ℕ, ◌≤◌, true}
use Rattle.pc_engine.specs.Waiting.{waits_after}
use Rattle.pc_sessions.specs.SessionSets.{has_session}
use Rattle.pc_shared.proofs.store.UnderLatch.has_granted.Given as goal

-- the requests of all up to this place whose calls sleep wait
abbrev pub invariant-loop-place : goal.invariant-loop-place
invariant-loop-place g l = (s : ℕ) → s ≤ l.place → has_session l.self.waits.for_locks s ≡ true → waits_after g.N.StoreName.name.setting s l.self.latched ≡ true
