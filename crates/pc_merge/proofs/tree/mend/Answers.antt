use Rattle.std.proofs.Common.{◌≡◌, arith, subst}
use Rattle.pc_merge.proofs.TreeLaws.{AreOthers, others_begin, nodes_mended, others_mended, others_end}
use Rattle.pc_merge.proofs.tree.mend.Goals as goal

pub loop-node-init : goal.loop-node-init
loop-node-init c = record {
  within = omega arith;
  nodes = c.requires.nodes;
  others = others_begin c.args.firsts.now c.args.tree.now c.args.place c.requires.others;
}

pub loop-node-preserved : goal.loop-node-preserved
loop-node-preserved c =
    let some = c.loop-node-test.true in
    let was = c.loop-node.invariant in
    record {
      within = omega arith;
      nodes = nodes_mended c.args.firsts.now c.loop-node.tree c.loop-node.node c.better.result (omega arith) was.within was.nodes c.better.ensures.one;
      others = others_mended c.args.firsts.now c.loop-node.tree c.loop-node.node c.better.result (omega arith) was.within was.nodes c.better.ensures.left c.better.ensures.right was.others;
    }

pub returns : goal.returns
returns c =
    let zero : c.loop-node.node ≡ 0 = omega arith in
    others_end c.args.firsts.now c.loop-node.tree c.loop-node.invariant.nodes (subst (AreOthers c.args.firsts.now c.loop-node.tree) zero c.loop-node.invariant.others)
