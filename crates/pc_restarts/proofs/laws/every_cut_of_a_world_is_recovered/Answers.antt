use Rattle.pc_restarts.proofs.Worlds.{every_cut_of_a_world}
use Rattle.pc_restarts.proofs.laws.every_cut_of_a_world_is_recovered.Goals as goal

pub returns : goal.returns
returns c = every_cut_of_a_world
