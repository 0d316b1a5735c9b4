use Rattle.std.proofs.Common.{sym, subst, take, refl}
use Rattle.std.proofs.lemmas.List.{take_all}
use Rattle.std.proofs.lemmas.List.Elements.{All-more, All-same}
use Rattle.pc_model.specs.Database.{database_of}
use Rattle.pc_kept_log.specs.Logs.{entries_of}
use Rattle.pc_replay.specs.Audits.{IsRightInTurn}
use Rattle.pc_audit.proofs.replays.are_right.Goals as goal

pub loop-file-preserved : goal.loop-file-preserved
loop-file-preserved c =
    let P = IsRightInTurn (database_of c.args.base.now) (entries_of c.args.log.now) in (
      c.in_ok-is_right.ensures.replayed,
      All-more P c.args.files.now c.loop-file.file-index c.file-item.result c.loop-file-test.true c.loop-file.invariant.1 (subst P c.file-item.is (c.in_ok-is_right.ensures.right.0 c.if-not-branch.false)),
    )

pub returns : goal.returns
returns c = (λ yes. All-same (IsRightInTurn (database_of c.args.base.now) (entries_of c.args.log.now)) c.args.files.now (take c.loop-file.file-index c.args.files.now) (sym (take_all c.loop-file.file-index c.args.files.now c.loop-file-test.false)) c.loop-file.invariant.1, λ all. refl)
