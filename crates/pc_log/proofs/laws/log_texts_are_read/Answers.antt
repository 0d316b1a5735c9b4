use Rattle.pc_log.proofs.LogTexts.{text_again}
use Rattle.pc_log.proofs.laws.log_texts_are_read.Goals as goal

pub returns : goal.returns
returns c = text_again
