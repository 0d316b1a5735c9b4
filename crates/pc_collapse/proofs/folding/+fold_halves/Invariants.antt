use Rattle.std.specs.Prelude.{vec_len}
use Rattle.pc_collapse.proofs.folding.+fold_halves.Given as goal

abbrev pub decreases-fold_halves : goal.decreases-fold_halves
decreases-fold_halves g l = vec_len l.pieces
