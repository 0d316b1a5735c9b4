use Rattle.std.proofs.Common.{ℕ, List, [], Option, Some, refl, ap, ◌∙◌}
use Rattle.pc_dirty.specs.declared.side.Side.{Side}
use Rattle.pc_records.specs.Ends.{queues_in}
use Rattle.pc_slots.specs.Slots.{slot_with, pinned}
use Rattle.pc_records.specs.Slots.{slots_in, rows_of}
use Rattle.pc_records.specs.SetLists.{open_slots, closed_slots, closed_keys}
use Rattle.pc_records.proofs.Leaving.{first_row}
use Rattle.pc_records.proofs.Among.{first_there, first_absent}
use Rattle.pc_records.proofs.FloorTaking.{first_is}
use Rattle.pc_records.proofs.floor.KeySlots.first_closed.Goals as goal

pub get-requires : goal.get-requires
get-requires c =
    let i = c.self.inside in
    first_row i.table i.sets c.self.invariant.2 c.in-Some.id (c.in-Some.ensures (open_slots i.table.rows i.sets) (closed_slots i.table.rows i.sets) c.self.invariant.2.linked)

pub returns-in-None : goal.returns-in-None
returns-in-None c =
    let i = c.self.inside in
    rw (← c.self.view_is)
    (first_absent i.table.rows i.sets (rows_of (queues_in i.table.rows i.locks) (slots_in i.sets.side i.table.rows)) (c.in-None.ensures (open_slots i.table.rows i.sets) (closed_slots i.table.rows i.sets) c.self.invariant.2.linked)
    ∙ first_is (queues_in i.table.rows i.locks) (slots_in i.sets.side i.table.rows) (closed_keys i.table.rows i.sets))

pub returns-in-Some : goal.returns-in-Some
returns-in-Some c =
    let i = c.self.inside in
    rw (← c.self.view_is)
    (ap (λ (content : Option (List ℕ)). Some (c.key.result.now, content)) (c.pinned_of-pinned.ensures ∙ ap (λ (s : Side). pinned (slot_with s 0 [] c.get.result.now)) c.open_side-side.ensures)
    ∙ first_there i.table.rows i.sets (queues_in i.table.rows i.locks) c.self.invariant.0 c.in-Some.id (c.in-Some.ensures (open_slots i.table.rows i.sets) (closed_slots i.table.rows i.sets) c.self.invariant.2.linked) (Some c.key.result.now) (Some c.get.result.now) c.key.result.now c.get.result.now refl refl c.key.ensures.key c.get.ensures.record_of
    ∙ first_is (queues_in i.table.rows i.locks) (slots_in i.sets.side i.table.rows) (closed_keys i.table.rows i.sets))
