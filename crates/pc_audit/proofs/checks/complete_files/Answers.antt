use Rattle.std.proofs.Common.{◌↔◌, subst, All, List}
use Rattle.std.proofs.lemmas.List.{take_all}
use Rattle.pc_replay.specs.Audits.{IsRight}
use Rattle.pc_model.specs.Files.{File}
use Rattle.pc_audit.specs.Checks.{IsFileRight}
use Rattle.pc_audit.proofs.RightFiles.{one_more}
use Rattle.pc_audit.proofs.checks.complete_files.Goals as goal

pub loop-file-preserved : goal.loop-file-preserved
loop-file-preserved c = (
  c.in_ok-push_complete.ensures.rise c.loop-file.invariant.0,
  λ base log. one_more base log c.loop-file.complete.items c.push_complete.new.complete.items c.args.files.now c.loop-file.file-index c.file-item.result c.loop-file-test.true c.file-item.is
      (rw c.part.ensures at c.in_ok-push_complete.ensures.right base log) (c.loop-file.invariant.1 base log),
)

pub returns-clause-right : goal.returns-clause-right
returns-clause-right c base log =
    let P : List File → Type 0 = λ files. All (IsRight base log) c.loop-file.complete.items ↔ All (IsFileRight base log) files in
    subst P (take_all c.loop-file.file-index c.args.files.now c.loop-file-test.false) (c.loop-file.invariant.1 base log)
