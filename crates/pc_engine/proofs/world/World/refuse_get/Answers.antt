use Rattle.pc_engine.proofs.Requests.{gets_follows}
use Rattle.pc_engine.proofs.world.World.refuse_get.Goals as goal

pub returns : goal.returns
returns c = λ history stands. gets_follows _ _ history _ _ stands _ c.get_refusal.ensures
