use Rattle.pc_part.proofs.PartFileLaws.{part_again}
use Rattle.pc_part.proofs.laws.part_texts_are_read.Goals as goal

pub returns : goal.returns
returns c = part_again
