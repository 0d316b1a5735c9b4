use Rattle.std.proofs.Common.{List, subst, arith}
use Rattle.pc_model.specs.Files.{File}
use Rattle.pc_collapse.specs.Worth.{AreWorth}
use Rattle.pc_collapse.proofs.FactLists.{worth_itself, worth_some, worth_trans}
use Rattle.pc_collapse.proofs.FoldedFiles.{joins_worth, some_handed_on}
use Rattle.pc_collapse.proofs.rounds.rounds.Goals as goal

pub returns-in_err-left : goal.returns-in_err-left
returns-in_err-left g c = some_handed_on _ _ _ _ c.loop.invariant.sound c.from_residual-in_err-left.ensures c.in_err-left.ensures

pub loop-preserved : goal.loop-preserved
loop-preserved g c = worth_trans _ _ _ c.loop.invariant c.in_ok-left.ensures

pub fold_pieces-requires-clause-some : goal.fold_pieces-requires-clause-some
fold_pieces-requires-clause-some g c =
    let left = worth_some _ _ c.requires.some c.loop.invariant in
    let counted_left = c.loop.left.ok.0 in
    omega (arith, left, counted_left)

pub returns : goal.returns
returns g c = joins_worth _ _ _ c.loop.invariant c.fold_pieces.ensures

pub loop-init : goal.loop-init
loop-init g c = subst (λ (files : List File). AreWorth files c.in_ok-pieces.pieces.items) c.in_ok-pieces.ensures (worth_itself c.in_ok-pieces.pieces.items)
