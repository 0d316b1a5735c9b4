use Rattle.pc_model.proofs.ChangeLaws.{nothing_done}
use Rattle.pc_model.proofs.laws.other_adds_do_nothing.Goals as goal

pub returns : goal.returns
returns c = nothing_done
