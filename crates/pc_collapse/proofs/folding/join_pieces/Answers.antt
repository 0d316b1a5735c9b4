use Rattle.std.proofs.Common.{Ok, Result}
use Rattle.pc_types.specs.declared.Refusal.{Refusal}
use Rattle.pc_model.specs.Files.{File}
use Rattle.pc_collapse.proofs.FoldedFiles.{handed_on, join_joins, cause_of}
use Rattle.pc_collapse.proofs.folding.join_pieces.Goals as goal

pub returns-in_err-part : goal.returns-in_err-part
returns-in_err-part g c = rw (← c.part.ensures, ← c.part-2.ensures) (handed_on _ c.in_err-part.field-0.0 _ c.from_residual.ensures (cause_of _ _ _ c.in_err-part.ensures.refused))

pub returns : goal.returns
returns g c =
    let file : Result File Refusal = Ok c.in_ok-part.part in
    rw (← c.part.ensures, ← c.part-2.ensures, c.own.ensures) (join_joins _ _ file c.in_ok-part.ensures.joined c.in_ok-part.ensures.refused)
