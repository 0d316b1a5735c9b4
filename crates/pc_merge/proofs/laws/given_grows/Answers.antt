use Rattle.pc_merge.proofs.GivenLaws.{given_grows}
use Rattle.pc_merge.proofs.laws.given_grows.Goals as goal

pub returns : goal.returns
returns c = given_grows
