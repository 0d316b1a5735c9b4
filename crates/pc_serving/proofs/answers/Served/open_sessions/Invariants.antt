use Rattle.std.proofs.Common.{◌≡◌, ◌≤◌}
use Rattle.pc_serving.specs.OpenSessions.{counted_to, opens_now}
use Rattle.pc_serving.proofs.answers.Served.open_sessions.Given as goal

-- this many sessions were looked at
abbrev pub invariant-loop-place : goal.invariant-loop-place
invariant-loop-place l = record {
  counted : l.count ≡ counted_to (opens_now l.self.world) l.place;
  within : l.count ≤ l.place;
}
