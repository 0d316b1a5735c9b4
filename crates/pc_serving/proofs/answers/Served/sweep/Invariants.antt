use Rattle.std.proofs.Common.{◌≡◌, ◌&&◌, ◌||◌, ℕ, Ok, nat_lt}
use Rattle.pc_io.specs.Tallies.{Puts}
use Rattle.pc_sessions.specs.SessionSets.{has_session}
use Rattle.pc_serving.specs.Sweeps.{swept_to, waits_now}
use Rattle.pc_serving.proofs.answers.Served.sweep.Given as goal

-- that many sessions were looked at
abbrev pub invariant-loop-place : goal.invariant-loop-place
invariant-loop-place g l = record {
  world : l.self.world ≡ l.fn.self.world;
  left : (s : ℕ) → has_session l.self.waiting s ≡ (has_session l.fn.self.waiting s && (waits_now l.fn.self.world s || nat_lt l.place s));
  sent : Puts g.W.Write.contents l.fn.out l.out (Ok tt) (swept_to (waits_now l.fn.self.world) (has_session l.fn.self.waiting) l.own l.place);
}
