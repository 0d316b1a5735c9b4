-- The locks' queues of every world that represents a history are legal.
use Rattle.std.proofs.Common.{[], sym, subst}
use Rattle.pc_model.specs.Locks.{queue_of}
use Rattle.pc_model.specs.Queues.{IsLegalQueue}
use Rattle.pc_model.proofs.LegalQueueLaws.{sound_legal}
use Rattle.pc_model.proofs.QueueLaws.{settled_sound}
use Rattle.pc_engine.specs.Laws.{StandingWorldsHaveLegalQueues}
use Rattle.pc_engine.proofs.Owing.{locked_now}

pub legal_queues : StandingWorldsHaveLegalQueues
legal_queues w history key stands =
    subst IsLegalQueue (sym (stands.parts.records.requests key)) (sound_legal [] (queue_of key history) (settled_sound [] (queue_of key history) ((locked_now w history stands).settled key).0))
