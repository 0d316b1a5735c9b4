use Rattle.pc_model.proofs.States.{untouched_stays}
use Rattle.pc_model.proofs.laws.untouched_keys_stay.Goals as goal

pub returns : goal.returns
returns c base log point key there none = untouched_stays base log point key there none
