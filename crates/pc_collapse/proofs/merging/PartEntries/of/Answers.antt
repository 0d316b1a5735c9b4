use Rattle.pc_collapse.proofs.PartEntries.{covered, opened}
use Rattle.pc_collapse.proofs.merging.PartEntries.of.Goals as goal

pub returns-clause-all : goal.returns-clause-all
returns-clause-all c = opened c.args.part.now c.entries.result c.entries.ensures.entries

pub returns-clause-covered : goal.returns-clause-covered
returns-clause-covered c = covered c.args.part.now c.entries.result c.entries.ensures.entries c.entries.ensures.covered
