use Rattle.pc_engine.proofs.Owing.{keeps_points}
use Rattle.pc_engine.proofs.laws.standing_worlds_keep_points.Goals as goal

pub returns : goal.returns
returns c = keeps_points
