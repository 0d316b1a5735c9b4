use Rattle.pc_replay.proofs.AuditLemmas.{no_token, own_token}
use Rattle.pc_replay.proofs.audits.state_len.Goals as goal

pub returns-then-place-log-clause-token : goal.returns-then-place-log-clause-token
returns-then-place-log-clause-token c = no_token c.args.point c.args.log.now c.front_len-place.result c.front_len-place.ensures.within c.front_len-place.ensures.front c.if-place-log.true

pub returns-then-eq-clause-token : goal.returns-then-eq-clause-token
returns-then-eq-clause-token c = own_token c.args.point c.args.log.now c.front_len-place.result c.front_len-place.ensures.within c.front_len-place.ensures.front c.if-place-log.false

pub returns-clause-token : goal.returns-clause-token
returns-clause-token c = own_token c.args.point c.args.log.now c.front_len-place.result c.front_len-place.ensures.within c.front_len-place.ensures.front c.if-place-log.false
