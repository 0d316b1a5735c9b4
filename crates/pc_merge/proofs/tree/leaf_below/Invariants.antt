use Rattle.std.proofs.Common.{◌≡◌, ◌*◌, ◌-◌, ◌<◌, ◌≤◌}
use Rattle.pc_merge.specs.Trees.{IsAncestorOrSelf}
use Rattle.pc_merge.proofs.tree.leaf_below.Given as goal

abbrev pub invariant-loop-leaf : goal.invariant-loop-leaf
invariant-loop-leaf l = record { some : 1 ≤ l.leaf; within : l.leaf < 2 * l.places; over : IsAncestorOrSelf l.node l.leaf; own : l.places ≤ l.node → l.leaf ≡ l.node }

abbrev pub decreases-loop-leaf : goal.decreases-loop-leaf
decreases-loop-leaf l = 2 * l.places - l.leaf
