use Rattle.pc_log.proofs.PlainTextLaws.{plain_again, entries_again}
use Rattle.pc_log.proofs.laws.entry_texts_are_read.Goals as goal

pub returns : goal.returns
returns c = (plain_again, entries_again)
