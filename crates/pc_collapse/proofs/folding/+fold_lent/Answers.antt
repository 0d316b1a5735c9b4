use Rattle.std.proofs.Common.{arith}
use Rattle.pc_collapse.proofs.FactLists.{sound_halves}
use Rattle.pc_collapse.proofs.FoldedFiles.{halves_join, join_joins, some_handed_on}
use Rattle.pc_collapse.proofs.MergedParts.{one_run_back}
use Rattle.pc_collapse.proofs.folding.+fold_lent.Goals as goal

pub returns-in_err-left : goal.returns-in_err-left
returns-in_err-left t c = some_handed_on c.args.parts.now _ _ _ (sound_halves _ _ _ _ c.split_at.ensures.front c.split_at.ensures.back).0 c.from_residual.ensures c.in_err-left.ensures

pub fold_lent-requires-2 : goal.fold_lent-requires-2
fold_lent-requires-2 t c = (omega (arith, c.decreases, c.if-parts-le-MOST_INPUTS.false, c.split_at.ensures.back_len), one_run_back _ c.args.parts.now _ _ c.split_at.ensures.front c.split_at.ensures.back (omega (arith, c.if-parts-le-MOST_INPUTS.false, c.split_at.ensures.back_len)) c.requires)

pub returns-in_err-right : goal.returns-in_err-right
returns-in_err-right t c = some_handed_on c.args.parts.now _ _ _ (sound_halves _ _ _ _ c.split_at.ensures.front c.split_at.ensures.back).1 c.from_residual-in_err-right.ensures c.in_err-right.ensures

pub returns : goal.returns
returns t c = halves_join c.args.parts.now _ _ _ _ c.join.result (sound_halves _ _ _ _ c.split_at.ensures.front c.split_at.ensures.back).2 c.in_ok-left.ensures c.in_ok-right.ensures (join_joins _ _ c.join.result c.join.ensures.joined c.join.ensures.refused)
