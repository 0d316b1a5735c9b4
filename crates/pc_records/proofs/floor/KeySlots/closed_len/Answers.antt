use Rattle.std.proofs.Common.{◌∙◌, sym}
use Rattle.pc_records.specs.SetLists.{open_slots, closed_slots}
use Rattle.pc_records.proofs.FloorTaking.{closed_counted}
use Rattle.pc_records.proofs.floor.KeySlots.closed_len.Goals as goal

pub returns : goal.returns
returns c =
    let i = c.self.inside in
    rw (← c.self.view_is) (c.closed_len.ensures (open_slots i.table.rows i.sets) (closed_slots i.table.rows i.sets) c.self.invariant.2.linked ∙ sym (closed_counted i.table.rows i.sets))
