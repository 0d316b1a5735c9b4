use Rattle.pc_types.proofs.NumberLaws.{read_back}
use Rattle.pc_model.proofs.laws.numbers_are_read.Goals as goal

pub returns : goal.returns
returns c = read_back
