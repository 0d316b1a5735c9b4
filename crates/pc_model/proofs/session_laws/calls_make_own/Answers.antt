use Rattle.pc_model.proofs.SessionCallLaws.{makes_own}
use Rattle.pc_model.proofs.session_laws.calls_make_own.Goals as goal

pub returns : goal.returns
returns c = makes_own
