use Rattle.pc_table.proofs.Keeping.{kept_slots}
use Rattle.pc_table.proofs.table.Table.capacity.Goals as goal

pub returns-clause-slots : goal.returns-clause-slots
returns-clause-slots g c = kept_slots _ _ _ c.self.view_is c.self.invariant
