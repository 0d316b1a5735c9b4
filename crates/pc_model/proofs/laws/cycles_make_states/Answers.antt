use Rattle.pc_model.proofs.States.{cycle_makes}
use Rattle.pc_model.proofs.laws.cycles_make_states.Goals as goal

pub returns : goal.returns
returns c base log point there = cycle_makes base log point there
