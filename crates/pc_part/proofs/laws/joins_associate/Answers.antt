use Rattle.pc_part.proofs.JoinLemmas.{joins_associate}
use Rattle.pc_part.proofs.laws.joins_associate.Goals as goal

pub returns : goal.returns
returns c = joins_associate
