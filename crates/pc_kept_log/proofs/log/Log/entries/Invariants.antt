use Rattle.std.proofs.Common.{◌≡◌, ◌+◌, ◌-◌, ◌≤◌, take}
use Rattle.std.specs.Vec.{vec_len, vec_capacity}
use Rattle.pc_kept_log.specs.Logs.{entries_of}
use Rattle.pc_kept_log.proofs.log.Log.entries.Given as goal

-- that many were read, and there is room for the others
abbrev pub invariant-loop-place : goal.invariant-loop-place
invariant-loop-place l = record {
  so_far : l.entries.items ≡ take l.place (entries_of l.self);
  room : vec_len l.entries + (l.count - l.place) ≤ vec_capacity l.entries;
}
