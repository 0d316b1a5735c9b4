use Rattle.pc_model.proofs.ShelfFileLaws.{made_join_well}
use Rattle.pc_model.proofs.laws.files_join_well.Goals as goal

pub returns : goal.returns
returns c st history legal values a b made other = made_join_well st history legal values a b made other
