use Rattle.std.proofs.Common.{◌≡◌, drop}
use Rattle.pc_model.specs.Log.{after}
use Rattle.pc_replay.proofs.tree.Tree.replay.Given as goal

abbrev pub invariant-loop-entry : goal.invariant-loop-entry
invariant-loop-entry l = after l.self (drop l.entry-index l.log) ≡ after l.fn.self l.log
