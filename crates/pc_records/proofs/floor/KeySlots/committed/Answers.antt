use Rattle.std.proofs.Common.{◌∙◌}
use Rattle.std.specs.Prelude.{IfOk, Result, Ok, Err}
use Rattle.pc_records.specs.Ends.{queues_in}
use Rattle.pc_records.specs.Slots.{slots_in}
use Rattle.pc_records.proofs.FloorMaking.{row_committed}
use Rattle.pc_records.proofs.floor.KeySlots.committed.Goals as goal

ok_map : {T E : Type 0} (P Q : T → Type 0) → ((t : T) → P t → Q t) → (r : Result T E) → IfOk r P → IfOk r Q
ok_map P Q each (Ok t) p = each t p
ok_map P Q each (Err e) p = tt

pub returns-clause-contents : goal.returns-clause-contents
returns-clause-contents c =
    let i = c.self.inside in
    rw (← c.self.view_is)
    (ok_map _ _ (λ pairs is key. is i.sets.side (queues_in i.table.rows i.locks) key ∙ row_committed (queues_in i.table.rows i.locks) (slots_in i.sets.side i.table.rows) key) c.committed_pairs.result c.committed_pairs.ensures.contents)
