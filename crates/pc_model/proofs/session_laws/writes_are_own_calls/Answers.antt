use Rattle.pc_model.proofs.OwnCallLaws.{writes_own}
use Rattle.pc_model.proofs.session_laws.writes_are_own_calls.Goals as goal

pub returns : goal.returns
returns c = writes_own
