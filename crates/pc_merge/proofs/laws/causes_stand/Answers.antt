use Rattle.pc_merge.proofs.GivenLaws.{causes_stand}
use Rattle.pc_merge.proofs.laws.causes_stand.Goals as goal

pub returns : goal.returns
returns c = causes_stand
