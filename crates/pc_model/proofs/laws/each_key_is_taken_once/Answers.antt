use Rattle.pc_model.proofs.StandingLaws.{each_key_once}
use Rattle.pc_model.proofs.laws.each_key_is_taken_once.Goals as goal

pub returns : goal.returns
returns c st history legal = each_key_once st history legal
