use Rattle.pc_phase.proofs.Counting.{begins_stay_of}
use Rattle.pc_phase.proofs.laws.begins_stay_of_the_history.Goals as goal

pub returns : goal.returns
returns c = begins_stay_of
