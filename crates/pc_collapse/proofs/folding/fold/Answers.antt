use Rattle.pc_collapse.proofs.FoldedFiles.{joins_fold}
use Rattle.pc_collapse.proofs.folding.fold.Goals as goal

pub returns : goal.returns
returns c = joins_fold c.args.parts.now c.fold_lent.result c.in_ok-check_runs.ensures c.fold_lent.ensures
