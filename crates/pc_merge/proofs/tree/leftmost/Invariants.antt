use Rattle.std.proofs.Common.{◌≡◌, ℕ, ◌+◌, ◌<◌, ◌≤◌, get_or}
use Rattle.std.specs.Prelude.{vec_len}
use Rattle.pc_merge.specs.Trees.{HasPlaceBelow}
use Rattle.pc_merge.proofs.tree.leftmost.Given as goal

abbrev pub invariant-loop-node : goal.invariant-loop-node
invariant-loop-node l = record {
  size : vec_len l.tree ≡ l.node;
  below : (j : ℕ) → j < l.node → 1 ≤ j → HasPlaceBelow l.places j (get_or l.tree.items j 0);
  own : (j : ℕ) → j < l.node → l.places ≤ j → l.places + get_or l.tree.items j 0 ≡ j;
}
