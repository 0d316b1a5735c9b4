use Rattle.pc_model.proofs.BeginningLaws.{files_stay}
use Rattle.pc_model.proofs.session_laws.files_stay.Goals as goal

pub returns : goal.returns
returns c = files_stay
