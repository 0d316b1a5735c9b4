use Rattle.pc_model.proofs.ShelfFileLaws.{headline}
use Rattle.pc_model.proofs.laws.files_are_states.Goals as goal

pub returns : goal.returns
returns c st history legal values = headline st history legal values
