use Rattle.pc_log.proofs.LogTexts.{whole_entries}
use Rattle.pc_log.proofs.laws.whole_entries_are_longest.Goals as goal

pub returns : goal.returns
returns c = whole_entries
