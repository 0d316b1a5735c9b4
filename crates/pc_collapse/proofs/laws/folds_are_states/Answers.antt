use Rattle.pc_collapse.proofs.PointFolds.{folds_are_states}
use Rattle.pc_collapse.proofs.laws.folds_are_states.Goals as goal

pub returns : goal.returns
returns c = folds_are_states
