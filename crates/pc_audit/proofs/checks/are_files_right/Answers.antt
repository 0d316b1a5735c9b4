use Rattle.std.proofs.Common.{◌↔◌, subst, All, List, IsTrue}
use Rattle.pc_model.specs.Database.{Database, database_of}
use Rattle.pc_replay.specs.Audits.{IsRight, TriplesRise}
use Rattle.pc_replay.specs.declared.audits.CompleteFile.{CompleteFile}
use Rattle.pc_kept_log.specs.Logs.{entries_of}
use Rattle.pc_audit.proofs.checks.are_files_right.Goals as goal

pub returns : goal.returns
returns c =
    let base = c.args.base.now.pairs in
    let log = entries_of c.args.log.now in
    let copies = c.in_ok-complete.complete.items in
    let S : List CompleteFile → Type 0 = λ files. All TriplesRise files → IsTrue c.in_ok-right.right ↔ All (IsRight (database_of c.pairs.result.now) log) files in
    let A : Database → Type 0 = λ db. IsTrue c.in_ok-right.right ↔ All (IsRight db log) copies in
    let audited = subst A c.pairs.ensures.pairs (subst S c.as_slice.ensures.value c.in_ok-right.ensures c.in_ok-complete.ensures.rise) in
    let right = c.in_ok-complete.ensures.right base log in (
      λ yes. right.0 (audited.0 yes),
      λ all. audited.1 (right.1 all),
    )
