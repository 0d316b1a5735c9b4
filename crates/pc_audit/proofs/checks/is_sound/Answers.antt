use Rattle.std.proofs.Common.{◌≡◌, ◌↔◌, subst, IsTrue}
use Rattle.pc_model.specs.Database.{Database, database_of}
use Rattle.pc_model.specs.Log.{after}
use Rattle.pc_kept_log.specs.Logs.{entries_of}
use Rattle.pc_audit.proofs.checks.is_sound.Goals as goal

pub returns : goal.returns
returns c =
    let log = entries_of c.args.log.now in
    let R : Database → Type 0 = λ db. IsTrue c.in_ok-is_log_replay.field-0 ↔ (database_of c.args.pairs.now ≡ after db log) in
    let replay = subst R c.pairs.ensures.pairs c.in_ok-is_log_replay.ensures in (
      λ yes. (replay.0 c.if-not-branch.false, c.in_ok-right.ensures.0 yes),
      λ both. c.in_ok-right.ensures.1 both.1,
    )
