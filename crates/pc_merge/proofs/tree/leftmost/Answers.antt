use Rattle.std.proofs.Common.{◌≡◌, ◌+◌, ◌≤◌, length, arith, rules}
use Rattle.pc_merge.specs.Trees.{HasPlaceBelow}
use Rattle.pc_merge.proofs.TreeLaws.{each_pushed}
use Rattle.pc_merge.proofs.tree.leftmost.Goals as goal

pub loop-node-preserved : goal.loop-node-preserved
loop-node-preserved c =
    let was = c.loop-node.invariant in
    let size : length c.loop-node.tree.items ≡ c.loop-node.node = omega arith in
    record {
      size = search rules;
      below = rw c.in_ok-push.ensures.items (each_pushed (λ j p. 1 ≤ j → HasPlaceBelow c.args.places j p) c.loop-node.tree.items c.loop-node.node c.leftmost_place.result size was.below c.leftmost_place.ensures.below);
      own = rw c.in_ok-push.ensures.items (each_pushed (λ j p. c.args.places ≤ j → c.args.places + p ≡ j) c.loop-node.tree.items c.loop-node.node c.leftmost_place.result size was.own c.leftmost_place.ensures.own);
    }

pub returns : goal.returns
returns c =
    let was = c.loop-node.invariant in
    record {
      size = omega arith;
      below = λ node some within. was.below node (omega arith) some;
      leaves = λ place within. let own = was.own (c.args.places + place) (omega arith) (omega arith) in omega arith;
    }
