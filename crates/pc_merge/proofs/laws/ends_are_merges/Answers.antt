use Rattle.pc_merge.proofs.GivenLaws.{ends_are_merges}
use Rattle.pc_merge.proofs.laws.ends_are_merges.Goals as goal

pub returns : goal.returns
returns c = ends_are_merges
