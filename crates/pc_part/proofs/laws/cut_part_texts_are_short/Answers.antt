use Rattle.pc_part.proofs.CutPartLaws.{part_cut}
use Rattle.pc_part.proofs.laws.cut_part_texts_are_short.Goals as goal

pub returns : goal.returns
returns c = part_cut
