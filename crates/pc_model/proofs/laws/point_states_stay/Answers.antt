use Rattle.pc_model.proofs.PointStateLaws.{state_stays}
use Rattle.pc_model.proofs.laws.point_states_stay.Goals as goal

pub returns : goal.returns
returns c st history step legal taking = state_stays st history step legal taking
