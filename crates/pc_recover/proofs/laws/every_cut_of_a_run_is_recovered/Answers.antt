use Rattle.pc_recover.proofs.RunsRestartLaws.{every_cut_of_a_run}
use Rattle.pc_recover.proofs.laws.every_cut_of_a_run_is_recovered.Goals as goal

pub returns : goal.returns
returns c = every_cut_of_a_run
