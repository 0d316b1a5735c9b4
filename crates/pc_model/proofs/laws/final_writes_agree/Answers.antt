use Rattle.pc_model.proofs.ChangeLaws.{final_writes}
use Rattle.pc_model.proofs.laws.final_writes_agree.Goals as goal

pub returns : goal.returns
returns c = final_writes
