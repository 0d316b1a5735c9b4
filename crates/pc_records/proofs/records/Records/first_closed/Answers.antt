use Rattle.std.proofs.Common.{◌∙◌}
use Rattle.pc_records.proofs.SpotSets.{first_same}
use Rattle.pc_records.proofs.records.Records.first_closed.Goals as goal

pub returns-clause-first : goal.returns-clause-first
returns-clause-first c = rw (← c.self.view_is) (c.first_closed.ensures ∙ first_same c.self.inside.slots.spots c.self.inside.slots.closed)

pub returns-clause-listed : goal.returns-clause-listed
returns-clause-listed c = rw (← c.self.view_is) (record { open_set = c.self.invariant.0.listed.open_set; closed_set = c.self.invariant.0.listed.closed_set })
