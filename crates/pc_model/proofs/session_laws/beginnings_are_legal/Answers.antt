use Rattle.pc_model.proofs.BeginningLaws.{legal_beginning}
use Rattle.pc_model.proofs.session_laws.beginnings_are_legal.Goals as goal

pub returns : goal.returns
returns c = legal_beginning
