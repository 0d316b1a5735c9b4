use Rattle.pc_model.proofs.OwnCallLaws.{own_own}
use Rattle.pc_model.proofs.session_laws.own_is_of_own_calls.Goals as goal

pub returns : goal.returns
returns c = own_own
