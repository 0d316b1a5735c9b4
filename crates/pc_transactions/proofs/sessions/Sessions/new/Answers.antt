use Rattle.pc_transactions.proofs.OngoingLaws.{first_stands}
use Rattle.pc_transactions.proofs.sessions.Sessions.new.Goals as goal

pub invariant_of-result : goal.invariant_of-result
invariant_of-result c = first_stands _ _ _ c.args.capacity c.args.count c.args.pairs.now c.in_ok-records.ensures c.in_ok-lanes.ensures c.new.ensures c.requires.count
