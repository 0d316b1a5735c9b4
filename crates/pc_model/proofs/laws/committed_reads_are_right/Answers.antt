use Rattle.pc_model.proofs.RightReadLaws.{reads_right}
use Rattle.pc_model.proofs.laws.committed_reads_are_right.Goals as goal

pub returns : goal.returns
returns c st history legal = reads_right st history legal
