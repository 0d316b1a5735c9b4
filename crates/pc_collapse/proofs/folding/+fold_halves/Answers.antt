use Rattle.pc_collapse.proofs.FactLists.{sound_halves}
use Rattle.pc_collapse.proofs.FoldedFiles.{some_handed_on, halves_join}
use Rattle.pc_collapse.proofs.folding.+fold_halves.Goals as goal

pub returns-in_err-left : goal.returns-in_err-left
returns-in_err-left g t c = some_handed_on c.args.pieces.items _ _ _ (sound_halves _ _ _ _ c.in_ok-back.ensures.items c.in_ok-back.ensures.tail).0 c.from_residual-in_err-left.ensures c.in_err-left.ensures

pub returns-in_err-right : goal.returns-in_err-right
returns-in_err-right g t c = some_handed_on c.args.pieces.items _ _ _ (sound_halves _ _ _ _ c.in_ok-back.ensures.items c.in_ok-back.ensures.tail).1 c.from_residual-in_err-right.ensures c.in_err-right.ensures

pub returns : goal.returns
returns g t c = halves_join c.args.pieces.items _ _ _ _ _ (sound_halves _ _ _ _ c.in_ok-back.ensures.items c.in_ok-back.ensures.tail).2 c.in_ok-left.ensures c.in_ok-right.ensures c.join_pieces.ensures
