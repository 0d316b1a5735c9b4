use Rattle.pc_model.proofs.StandingLaws.{tokens_in_order}
use Rattle.pc_model.proofs.laws.tokens_stand_in_order.Goals as goal

pub returns : goal.returns
returns c st history legal = tokens_in_order st history legal
