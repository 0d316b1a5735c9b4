use Rattle.std.proofs.Common.{◌∙◌, sym}
use Rattle.pc_locks.specs.Keepers.{lists_of}
use Rattle.pc_records.specs.Ends.{ends_in, queues_in}
use Rattle.pc_records.specs.Slots.{slots_in}
use Rattle.pc_records.proofs.FloorLaws.{waits_alike}
use Rattle.pc_records.proofs.SlotWaiting.{waits_same}
use Rattle.pc_records.proofs.floor.KeySlots.is_waiting.Goals as goal

pub returns : goal.returns
returns c =
    let i = c.self.inside in
    rw (← c.self.view_is)
    (c.is_waiting.ensures (ends_in i.table.rows) c.self.invariant.1 ∙ waits_same (slots_in i.sets.side i.table.rows) (queues_in i.table.rows i.locks) (lists_of i.locks) c.args.transaction c.self.invariant.1.settled.linked c.self.invariant.0
    ∙ sym (waits_alike c.args.transaction (queues_in i.table.rows i.locks) (slots_in i.sets.side i.table.rows)))
