use Rattle.pc_bases.proofs.CutBaseLaws.{base_cut}
use Rattle.pc_bases.proofs.laws.cut_base_texts_are_short.Goals as goal

pub returns : goal.returns
returns c = base_cut
