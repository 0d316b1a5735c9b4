use Rattle.std.proofs.Common.{◌≡◌, ap, ◌∙◌, subst, ◌-◌, take, drop, OnOk}
use Rattle.pc_model.specs.Database.{Database, database_of}
use Rattle.pc_model.specs.Log.{after}
use Rattle.pc_kept_log.specs.Logs.{entries_of}
use Rattle.pc_replay.proofs.AuditLemmas.{after_more}
use Rattle.pc_audit.proofs.replays.go_to.Goals as goal

pub returns-else-to-at : goal.returns-else-to-at
returns-else-to-at c =
    let P : Database → Type 0 = λ db. OnOk c.replay-else-to-at.result (c.replay-else-to-at.new.self ≡ db) in
    subst P (ap (λ db. after db (take (c.args.to - c.args.at) (drop c.args.at (entries_of c.args.log.now)))) c.requires.replayed ∙ after_more (database_of c.args.base.now) (entries_of c.args.log.now) c.args.at c.args.to c.if-to-at.false) c.replay-else-to-at.ensures
