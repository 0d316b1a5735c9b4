use Rattle.pc_points.proofs.WholeLogs.{logs_give_states}
use Rattle.pc_points.proofs.laws.logs_give_states.Goals as goal

pub returns : goal.returns
returns c = logs_give_states c.log_texts_are_read.ensures
