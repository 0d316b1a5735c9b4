use Rattle.pc_collapse.proofs.FoldedFiles.{joins_worth}
use Rattle.pc_collapse.proofs.folding.fold_pieces.Goals as goal

pub returns : goal.returns
returns g c = joins_worth _ _ _ c.in_ok-piece.ensures c.into_part.ensures
