use Rattle.pc_part.proofs.JoinLemmas.{conflicts_are_mutual}
use Rattle.pc_part.proofs.laws.conflicts_are_mutual.Goals as goal

pub returns : goal.returns
returns c = conflicts_are_mutual
