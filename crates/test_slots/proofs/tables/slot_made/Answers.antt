use Rattle.std.proofs.Common.{sym, ◌∙◌}
use Rattle.pc_table.proofs.RowLaws.{record_put}
use Rattle.test_slots.proofs.tables.slot_made.Goals as goal

pub returns-in-Some-clause-changed : goal.returns-in-Some-clause-changed
returns-in-Some-clause-changed c = λ x. record_put c.args.table.now c.args.key.now c.in-Some.id c.find.ensures.slots (sym c.find.ensures.slot ∙ c.in-Some.is) x
