use Rattle.pc_phase.proofs.Counting.{ends_stay_of}
use Rattle.pc_phase.proofs.laws.ends_stay_of_the_history.Goals as goal

pub returns : goal.returns
returns c = ends_stay_of
