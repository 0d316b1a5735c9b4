use Rattle.pc_phase.proofs.Agreeing.{held_back_is_certain}
use Rattle.pc_phase.proofs.laws.held_back_is_certain.Goals as goal

pub returns : goal.returns
returns c = held_back_is_certain
