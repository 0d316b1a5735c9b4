use Rattle.pc_model.proofs.States.{part_makes}
use Rattle.pc_model.proofs.laws.parts_make_states.Goals as goal

pub returns : goal.returns
returns c base log point there = part_makes base log point there
