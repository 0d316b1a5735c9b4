use Rattle.pc_model.proofs.ShelfFileLaws.{shelf_of_points}
use Rattle.pc_model.proofs.laws.files_are_of_their_points.Goals as goal

pub returns : goal.returns
returns c st history legal values file there = shelf_of_points st history legal values file there
