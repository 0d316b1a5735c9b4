use Rattle.std.proofs.Common.{None, refl, arith}
use Rattle.pc_collapse.proofs.FactLists.{worth_some}
use Rattle.pc_collapse.proofs.FoldedFiles.{joins_worth}
use Rattle.pc_collapse.proofs.Gathered.{kept_is, none_kept}
use Rattle.pc_collapse.proofs.bag.left_by.Goals as goal

pub fold_pieces-requires-clause-some : goal.fold_pieces-requires-clause-some
fold_pieces-requires-clause-some g c =
    let left = worth_some _ _ c.requires.files.1 c.in_ok-left.ensures in
    let counted_left = c.in_ok-left.left.ok.0 in
    omega (arith, left, counted_left)

pub returns-clause-joined : goal.returns-clause-joined
returns-clause-joined g c = joins_worth _ _ _ c.in_ok-left.ensures c.fold_pieces.ensures

pub returns-in-Some-clause-kept : goal.returns-in-Some-clause-kept
returns-in-Some-clause-kept g c = kept_is _ c.gather.result _ c.in-Some.why c.gather.ensures.kept c.in-Some.is refl

pub returns-in_err-left-clause-kept : goal.returns-in_err-left-clause-kept
returns-in_err-left-clause-kept g c = none_kept _ None _ c.in_default.ensures.kept refl

pub returns-clause-kept : goal.returns-clause-kept
returns-clause-kept g c = none_kept _ None _ c.in_default.ensures.kept refl
