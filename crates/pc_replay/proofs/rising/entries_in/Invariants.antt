use Rattle.std.proofs.Common.{◌≡◌, ◌++◌}
use Rattle.pc_replay.proofs.rising.entries_in.Given as goal

abbrev pub invariant-loop-key : goal.invariant-loop-key
invariant-loop-key l = l.out.items ++ l.key-iterator ≡ l.fn.entries.entries
