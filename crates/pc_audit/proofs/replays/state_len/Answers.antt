use Rattle.std.proofs.Common.{sym, ◌∙◌}
use Rattle.pc_kept_log.specs.Logs.{entries_of}
use Rattle.pc_replay.proofs.AuditLemmas.{no_token, own_token}
use Rattle.pc_audit.proofs.replays.state_len.Goals as goal

pub returns-then-place-len-clause-token : goal.returns-then-place-len-clause-token
returns-then-place-len-clause-token c = no_token c.args.point (entries_of c.args.log.now) c.front_len-place.result c.front_len-place.ensures.within c.front_len-place.ensures.front (c.if-place-len.true ∙ c.len.ensures)

pub returns-then-eq-clause-token : goal.returns-then-eq-clause-token
returns-then-eq-clause-token c = own_token c.args.point (entries_of c.args.log.now) c.front_len-place.result c.front_len-place.ensures.within c.front_len-place.ensures.front (λ end. c.if-place-len.false (end ∙ sym c.len.ensures))

pub returns-clause-token : goal.returns-clause-token
returns-clause-token c = own_token c.args.point (entries_of c.args.log.now) c.front_len-place.result c.front_len-place.ensures.within c.front_len-place.ensures.front (λ end. c.if-place-len.false (end ∙ sym c.len.ensures))
