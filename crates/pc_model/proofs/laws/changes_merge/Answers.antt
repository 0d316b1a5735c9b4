use Rattle.pc_model.proofs.ChangeLaws.{merge}
use Rattle.pc_model.proofs.laws.changes_merge.Goals as goal

pub returns : goal.returns
returns c = merge
