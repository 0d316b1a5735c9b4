use Rattle.std.proofs.Common.{◌∙◌, ap, sym, eqb}
use Rattle.pc_records.specs.Ends.{queues_in}
use Rattle.pc_records.proofs.FloorMaking.{counted}
use Rattle.pc_records.proofs.floor.KeySlots.is_full.Goals as goal

pub returns : goal.returns
returns c =
    let i = c.self.inside in
    rw (← c.self.view_is) (c.is_full.ensures.full ∙ ap (λ n. eqb n i.table.capacity) (sym (counted i.sets.side (queues_in i.table.rows i.locks) i.table.rows)))
