use Rattle.pc_recover.proofs.RunsRestartLaws.{every_cut}
use Rattle.pc_recover.proofs.laws.every_cut_is_recovered.Goals as goal

pub returns : goal.returns
returns c = every_cut
