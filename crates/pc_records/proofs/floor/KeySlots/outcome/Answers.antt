use Rattle.std.proofs.Common.{◌∙◌, ap, sym}
use Rattle.pc_model.specs.Locks.{Queue, outcome}
use Rattle.pc_records.specs.Ends.{queues_in}
use Rattle.pc_records.specs.Slots.{slots_in}
use Rattle.pc_records.specs.Floor.{Floor, has_spot}
use Rattle.pc_records.proofs.FloorLaws.{spot_row, queue_there}
use Rattle.pc_records.proofs.floor.KeySlots.outcome.Goals as goal

pub outcome-requires-clause-has : goal.outcome-requires-clause-has
outcome-requires-clause-has c = spot_row c.self.inside.sets.side (queues_in c.self.inside.table.rows c.self.inside.locks) c.args.id c.self.inside.table.rows (ap (λ (f : Floor). has_spot f.spots c.args.id) c.self.view_is ∙ c.requires.there)

pub returns : goal.returns
returns c =
    let i = c.self.inside in
    rw (← c.self.view_is)
    (c.outcome.ensures ∙ ap (λ (q : Queue). outcome q c.args.transaction c.args.mode) (sym (queue_there (queues_in i.table.rows i.locks) c.args.id (slots_in i.sets.side i.table.rows) (ap (λ (f : Floor). has_spot f.spots c.args.id) c.self.view_is ∙ c.requires.there))))
