use Rattle.pc_recover.proofs.JoinedAtOnce.{at_once}
use Rattle.pc_recover.proofs.joining.joined_at_once.Goals as goal

pub returns-in-Ok-clause-joined : goal.returns-in-Ok-clause-joined
returns-in-Ok-clause-joined c = at_once c.joins_associate.ensures c.joins_make_no_conflict.ensures c.args.parts.now c.in-Ok.part c.in-Ok.ensures (c.in_ok-are_apart.ensures c.if-not-branch.false) c.tell.ensures.limit
