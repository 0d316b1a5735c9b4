use Rattle.std.proofs.Common.{◌≡◌}
use Rattle.std.specs.Prelude.{slice_range}
use Rattle.pc_model.specs.Log.{after}
use Rattle.pc_kept_log.specs.Logs.{entries_of}
use Rattle.pc_audit.proofs.table.Table.replay.Given as goal

abbrev pub invariant-loop-entry : goal.invariant-loop-entry
invariant-loop-entry l = after l.self l.entry-iterator ≡ after l.fn.self (slice_range (entries_of l.log) l.from l.to)
