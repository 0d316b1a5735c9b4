use Rattle.pc_log.proofs.LawfulLogLaws.{logs_have_texts}
use Rattle.pc_log.proofs.laws.logs_of_runs_have_texts.Goals as goal

pub returns : goal.returns
returns c = logs_have_texts
