use Rattle.std.proofs.Common.{[]}
use Rattle.pc_model.proofs.LegalEffectLaws.{legal_has_legal_effects}
use Rattle.pc_model.specs.Locks.{queue_of}
use Rattle.pc_model.proofs.QueueLaws.{settled_sound}
use Rattle.pc_model.proofs.LegalQueueLaws.{sound_legal}
use Rattle.pc_model.proofs.RightReadLaws.{locked}
use Rattle.pc_model.proofs.laws.locks_never_conflict.Goals as goal

pub returns : goal.returns
returns c st history key legal = sound_legal [] (queue_of key history) (settled_sound [] (queue_of key history) ((locked st history (legal_has_legal_effects st history legal)).settled key).0)
