use Rattle.pc_part.proofs.JoinLemmas.{joins_commute}
use Rattle.pc_part.proofs.laws.joins_commute.Goals as goal

pub returns : goal.returns
returns c = joins_commute
