use Rattle.std.proofs.Common.{◌≡◌, ◌+◌, ◌≤◌, length}
use Rattle.pc_log.specs.Orders.{no_token}
use Rattle.pc_log.specs.Reading.{all_at}
use Rattle.pc_recover.specs.Replaying.{found_replay}
use Rattle.pc_recover.proofs.EntryReplays.{to_come}
use Rattle.pc_recover.proofs.replaying.replay_entries.Given as goal

-- the entries still to come have the effect of all of them
abbrev pub invariant-loop-rest : goal.invariant-loop-rest
invariant-loop-rest l = record {
  replay : to_come l.is_behind l.fn.point l.database l.entries (all_at l.format l.last l.rest) ≡ found_replay l.fn.point l.fn.database (all_at l.format no_token l.bytes);
  left : (all_at l.format l.last l.rest).rest ≡ (all_at l.format no_token l.bytes).rest;
  counted : l.entries + length l.rest ≤ length l.bytes;
}

abbrev pub decreases-loop-rest : goal.decreases-loop-rest
decreases-loop-rest l = length l.rest
