use Rattle.pc_part.proofs.LocalSteps.{steps_are_local}
use Rattle.pc_part.proofs.laws.steps_are_local.Goals as goal

pub returns : goal.returns
returns c = steps_are_local
