use Rattle.pc_model.specs.Database.{database_of}
use Rattle.pc_kept_log.specs.Logs.{entries_of}
use Rattle.pc_replay.proofs.AuditLemmas.{all_in_turn}
use Rattle.pc_audit.proofs.replays.audit_log.Goals as goal

pub returns : goal.returns
returns c rise =
    let same = all_in_turn (database_of c.args.base.now) (entries_of c.args.log.now) c.args.files.now rise in
    (λ yes. same.0 (c.in_ok-right.ensures.0 yes), λ all. c.in_ok-right.ensures.1 (same.1 all))
