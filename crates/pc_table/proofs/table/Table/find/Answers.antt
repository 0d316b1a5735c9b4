use Rattle.pc_table.proofs.Keeping.{kept_slots, found_slot, found_row}
use Rattle.pc_table.proofs.table.Table.find.Goals as goal

pub returns-clause-slot : goal.returns-clause-slot
returns-clause-slot g c = found_slot _ _ _ c.self.view_is c.self.invariant c.args.key.now c.find.result c.find.ensures

pub returns-clause-row : goal.returns-clause-row
returns-clause-row g c = found_row _ _ _ c.self.view_is c.self.invariant c.args.key.now c.find.result c.find.ensures

pub returns-clause-slots : goal.returns-clause-slots
returns-clause-slots g c = kept_slots _ _ _ c.self.view_is c.self.invariant
