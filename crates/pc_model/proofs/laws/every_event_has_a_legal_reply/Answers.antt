use Rattle.pc_model.proofs.Ample.{ample_reply, ample_is_legal}
use Rattle.pc_model.proofs.laws.every_event_has_a_legal_reply.Goals as goal

pub returns : goal.returns
returns c st history event = (ample_reply st history event, ample_is_legal st history event)
