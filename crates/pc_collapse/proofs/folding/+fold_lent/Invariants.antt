use Rattle.std.specs.Prelude.{length}
use Rattle.pc_collapse.proofs.folding.+fold_lent.Given as goal

abbrev pub decreases-fold_lent : goal.decreases-fold_lent
decreases-fold_lent l = length l.parts.now
