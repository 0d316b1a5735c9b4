use Rattle.pc_audit.proofs.RightFiles.{right_of_points}
use Rattle.pc_audit.proofs.laws.files_of_their_points_are_right.Goals as goal

pub returns : goal.returns
returns c = right_of_points
