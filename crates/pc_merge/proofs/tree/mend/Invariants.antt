use Rattle.std.proofs.Common.{◌<◌, length}
use Rattle.pc_merge.specs.Trees.{AreNodes}
use Rattle.pc_merge.proofs.TreeLaws.{AreOthers}
use Rattle.pc_merge.proofs.tree.mend.Given as goal

abbrev pub invariant-loop-node : goal.invariant-loop-node
invariant-loop-node l = record { within : l.node < length l.firsts; nodes : AreNodes (length l.firsts) l.tree; others : AreOthers l.firsts l.tree l.node }

abbrev pub decreases-loop-node : goal.decreases-loop-node
decreases-loop-node l = l.node
