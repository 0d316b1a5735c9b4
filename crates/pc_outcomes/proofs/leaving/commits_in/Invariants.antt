use Rattle.std.proofs.Common.{◌≡◌, ◌+◌, ◌≤◌, length}
use Rattle.pc_kept_log.specs.Logs.{entries_of}
use Rattle.pc_outcomes.specs.Leaving.{commits_in}
use Rattle.pc_outcomes.proofs.leaving.commits_in.Given as goal

-- those so far, and those still to come
abbrev pub invariant-loop-entry : goal.invariant-loop-entry
invariant-loop-entry l = record {
  counted : l.count + commits_in l.entry-iterator ≡ commits_in (entries_of l.log);
  few : l.count + length l.entry-iterator ≤ length (entries_of l.log);
}
