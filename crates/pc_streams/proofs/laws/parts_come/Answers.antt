use Rattle.pc_streams.proofs.PartsComeLaws.{fields_come, parts_come}
use Rattle.pc_streams.proofs.laws.parts_come.Goals as goal

pub returns : goal.returns
returns c = record { fields = fields_come; parts = parts_come }
