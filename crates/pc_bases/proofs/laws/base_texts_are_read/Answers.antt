use Rattle.pc_bases.proofs.BaseFileLaws.{base_again}
use Rattle.pc_bases.proofs.laws.base_texts_are_read.Goals as goal

pub returns : goal.returns
returns c = base_again
