use Rattle.std.proofs.Common.{◌∙◌}
use Rattle.pc_table.proofs.Keeping.{kept_slots, full_of}
use Rattle.pc_table.proofs.table.Table.is_full.Goals as goal

pub returns-clause-full : goal.returns-clause-full
returns-clause-full g c = c.is_full.ensures ∙ full_of _ _ _ c.self.view_is c.self.invariant

pub returns-clause-slots : goal.returns-clause-slots
returns-clause-slots g c = kept_slots _ _ _ c.self.view_is c.self.invariant
