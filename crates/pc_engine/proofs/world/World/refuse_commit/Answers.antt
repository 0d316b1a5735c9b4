use Rattle.pc_engine.proofs.Endings.{commits_follows}
use Rattle.pc_engine.proofs.world.World.refuse_commit.Goals as goal

pub returns : goal.returns
returns c = λ history stands. commits_follows _ _ history _ _ stands c.commit_refusal.ensures
