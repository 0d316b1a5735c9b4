use Rattle.std.proofs.Common.{◌≡◌, ◌≤◌, ◌++◌, length, take, drop}
use Rattle.pc_model.specs.Log.{front}
use Rattle.pc_kept_log.specs.Logs.{entries_of}
use Rattle.pc_audit.proofs.replays.front_len.Given as goal

-- the entries before the place are in front of the token
abbrev pub invariant-loop-entry : goal.invariant-loop-entry
invariant-loop-entry l = record {
  left : l.entry-iterator ≡ drop l.place (entries_of l.log);
  within : l.place ≤ length (entries_of l.log);
  so_far : take l.place (entries_of l.log) ++ front l.point l.entry-iterator ≡ front l.point (entries_of l.log);
}
