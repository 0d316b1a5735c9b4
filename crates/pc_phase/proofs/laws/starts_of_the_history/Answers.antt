use Rattle.pc_phase.proofs.Counting.{starts_of}
use Rattle.pc_phase.proofs.laws.starts_of_the_history.Goals as goal

pub returns : goal.returns
returns c = starts_of
