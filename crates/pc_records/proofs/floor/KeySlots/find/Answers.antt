use Rattle.std.proofs.Common.{◌∙◌}
use Rattle.pc_records.specs.Ends.{queues_in}
use Rattle.pc_records.proofs.FloorLaws.{number_there, found_spot}
use Rattle.pc_records.proofs.floor.KeySlots.find.Goals as goal

pub returns-clause-found : goal.returns-clause-found
returns-clause-found c = rw (← c.self.view_is) (c.find_near.ensures.slot ∙ number_there c.self.inside.sets.side (queues_in c.self.inside.table.rows c.self.inside.locks) c.args.key.now c.self.inside.table.rows)

pub returns-clause-there : goal.returns-clause-there
returns-clause-there c = rw (← c.self.view_is) (found_spot c.self.inside.sets.side (queues_in c.self.inside.table.rows c.self.inside.locks) c.self.inside.table.rows c.find_near.result c.find_near.ensures.row)
