use Rattle.std.proofs.Common.{arith}
use Rattle.pc_merge.proofs.TreeLaws.{over_doubled}
use Rattle.pc_merge.proofs.tree.leaf_below.Goals as goal

pub loop-leaf-preserved : goal.loop-leaf-preserved
loop-leaf-preserved c = record {
  some = omega arith;
  within = omega arith;
  over = over_doubled c.args.node c.loop-leaf.leaf c.loop-leaf.invariant.over;
  own = λ h. let is = c.loop-leaf.invariant.own h in absurd (omega arith);
}
