use Rattle.std.proofs.Common.{◌≡◌, ◌∙◌, ap, sym, false}
use Rattle.pc_locks.specs.States.{queue_at}
use Rattle.pc_slots.specs.Slots.{slot_with, is_kept_slot}
use Rattle.std.specs.Prelude.{[]}
use Rattle.pc_records.specs.Ends.{queues_in}
use Rattle.pc_records.specs.Floor.{Floor, has_spot}
use Rattle.pc_records.proofs.FloorLaws.{spot_row}
use Rattle.pc_records.proofs.FloorTidying.{kept_needless, ends_needless, listed_needless, floor_needed, floor_needless}
use Rattle.pc_records.proofs.SpotSets.{whole_there}
use Rattle.pc_records.proofs.floor.KeySlots.tidy.Goals as goal
use Rattle.pc_records.proofs.floor.KeySlots.tidy.Goals.{After-drop}

pub has_request-is_requested-requires-clause-has : goal.has_request-is_requested-requires-clause-has
has_request-is_requested-requires-clause-has c = spot_row c.self.inside.sets.side (queues_in c.self.inside.table.rows c.self.inside.locks) c.args.id c.self.inside.table.rows (ap (λ (f : Floor). has_spot f.spots c.args.id) c.self.view_is ∙ c.requires.there)

pub get-requires : goal.get-requires
get-requires c = spot_row c.self.inside.sets.side (queues_in c.self.inside.table.rows c.self.inside.locks) c.args.id c.self.inside.table.rows (ap (λ (f : Floor). has_spot f.spots c.args.id) c.self.view_is ∙ c.requires.there)

pub remove-requires : goal.remove-requires
remove-requires c = spot_row c.self.inside.sets.side (queues_in c.self.inside.table.rows c.self.inside.locks) c.args.id c.self.inside.table.rows (ap (λ (f : Floor). has_spot f.spots c.args.id) c.self.view_is ∙ c.requires.there)

-- nothing keeps the slot
nothing : (c : After-drop) → is_kept_slot (queue_at (queues_in c.self.inside.table.rows c.self.inside.locks) c.args.id) (slot_with c.open_side-side.result c.args.id [] c.get.result.now) ≡ false
nothing c = sym (c.is_kept.ensures c.args.id (queue_at (queues_in c.self.inside.table.rows c.self.inside.locks) c.args.id) c.has_request-is_requested.ensures) ∙ c.if-not-is_kept.true

pub invariant_of-self : goal.invariant_of-self
invariant_of-self c =
    let i = c.self.inside in (
      kept_needless i.table i.locks i.sets c.open_side-side.result c.open_side-side.ensures c.args.id c.get.result.now c.get.ensures.record_of c.self.invariant.0 c.remove.new.self c.remove.ensures.rows (nothing c) c.remove.ensures.after,
      ends_needless i.table i.locks i.sets c.open_side-side.result c.open_side-side.ensures c.args.id c.get.result.now c.get.ensures.record_of c.self.invariant.0 c.remove.new.self c.remove.ensures.rows (nothing c) c.self.invariant.1,
      listed_needless i.table i.locks i.sets c.open_side-side.result c.open_side-side.ensures c.args.id c.get.result.now c.get.ensures.record_of c.self.invariant.0 c.remove.new.self c.remove.ensures.rows (nothing c) c.self.invariant.2,
    )

pub returns-then-not-is_kept-clause-tidied : goal.returns-then-not-is_kept-clause-tidied
returns-then-not-is_kept-clause-tidied c =
    let i = c.self.inside in
    rw (← c.self.view_is) (floor_needless i.table i.locks i.sets c.open_side-side.result c.open_side-side.ensures c.args.id c.get.result.now c.get.ensures.record_of c.self.invariant.0 c.remove.new.self c.remove.ensures.rows (nothing c) c.self.invariant.2)

pub returns-else-not-is_kept-clause-tidied : goal.returns-else-not-is_kept-clause-tidied
returns-else-not-is_kept-clause-tidied c =
    let i = c.self.inside in
    rw (← c.self.view_is) (floor_needed i.table i.locks i.sets c.open_side-side.result c.open_side-side.ensures c.args.id c.get.result.now c.get.ensures.record_of c.self.invariant.0
    (sym (c.is_kept.ensures c.args.id (queue_at (queues_in i.table.rows i.locks) c.args.id) c.has_request-is_requested.ensures) ∙ c.if-not-is_kept.false))

pub returns-then-not-is_kept-clause-whole : goal.returns-then-not-is_kept-clause-whole
returns-then-not-is_kept-clause-whole c = whole_there c.remove.new.self c.self.inside.locks c.self.inside.sets (invariant_of-self c)

pub returns-else-not-is_kept-clause-whole : goal.returns-else-not-is_kept-clause-whole
returns-else-not-is_kept-clause-whole c = rw (← c.self.view_is) (whole_there c.self.inside.table c.self.inside.locks c.self.inside.sets c.self.invariant)
