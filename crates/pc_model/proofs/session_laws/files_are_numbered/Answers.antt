use Rattle.pc_model.proofs.FileNumberLaws.{files_numbered}
use Rattle.pc_model.proofs.session_laws.files_are_numbered.Goals as goal

pub returns : goal.returns
returns c = files_numbered
