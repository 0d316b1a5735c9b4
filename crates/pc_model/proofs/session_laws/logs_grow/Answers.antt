use Rattle.pc_model.proofs.BeginningLaws.{logs_grow}
use Rattle.pc_model.proofs.session_laws.logs_grow.Goals as goal

pub returns : goal.returns
returns c = logs_grow
