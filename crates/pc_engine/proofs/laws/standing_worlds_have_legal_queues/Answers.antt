use Rattle.pc_engine.proofs.LegalQueues.{legal_queues}
use Rattle.pc_engine.proofs.laws.standing_worlds_have_legal_queues.Goals as goal

pub returns : goal.returns
returns c = legal_queues
