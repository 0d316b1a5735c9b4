use Rattle.std.proofs.Common.{◌∙◌, sym}
use Rattle.pc_records.proofs.SpotWrites.{settled_there, settled_none}
use Rattle.pc_records.proofs.records.settle_key.Goals as goal

pub returns-in-Some-clause-settled : goal.returns-in-Some-clause-settled
returns-in-Some-clause-settled c = c.settle.ensures.settled ∙ settled_there c.args.slots.now c.args.key.now c.args.point c.in-Some.id c.requires.whole (sym c.in-Some.ensures.found)

pub returns-in_default-clause-settled : goal.returns-in_default-clause-settled
returns-in_default-clause-settled c = settled_none c.args.slots.now c.args.key.now (sym c.in_default.ensures.found) c.args.point
