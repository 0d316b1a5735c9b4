use Rattle.std.proofs.Common.{◌≡◌, ◌++◌}
use Rattle.pc_pairs.proofs.gathered.vector_of.Given as goal

abbrev pub invariant-loop-pair : goal.invariant-loop-pair
invariant-loop-pair l = l.pairs.items ++ l.pair-iterator ≡ l.fn.tree.entries
