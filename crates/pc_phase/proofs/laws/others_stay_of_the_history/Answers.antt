use Rattle.pc_phase.proofs.Counting.{others_stay_of}
use Rattle.pc_phase.proofs.laws.others_stay_of_the_history.Goals as goal

pub returns : goal.returns
returns c = others_stay_of
