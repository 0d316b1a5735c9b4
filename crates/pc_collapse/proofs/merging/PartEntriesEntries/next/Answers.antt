use Rattle.pc_collapse.proofs.PartEntries.{yields_within}
use Rattle.pc_collapse.proofs.merging.PartEntriesEntries.next.Goals as goal

pub returns-in-Ok-clause-within : goal.returns-in-Ok-clause-within
returns-in-Ok-clause-within c = λ points all. yields_within points c.args.self.now.pass c.next_copy.new.pass c.in-Ok.next c.in-Ok.ensures all
