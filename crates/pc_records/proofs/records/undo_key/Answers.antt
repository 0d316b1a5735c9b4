use Rattle.std.proofs.Common.{◌∙◌, sym}
use Rattle.pc_records.proofs.SpotWrites.{undone_there, undone_none}
use Rattle.pc_records.proofs.records.undo_key.Goals as goal

pub returns-in-Some-clause-undone : goal.returns-in-Some-clause-undone
returns-in-Some-clause-undone c = c.undo.ensures.undone ∙ undone_there c.args.slots.now c.args.key.now c.args.point c.in-Some.id c.requires.whole (sym c.in-Some.ensures.found)

pub returns-in_default-clause-undone : goal.returns-in_default-clause-undone
returns-in_default-clause-undone c = undone_none c.args.slots.now c.args.key.now (sym c.in_default.ensures.found) c.args.point
