use Rattle.std.proofs.Common.{◌∙◌, ℕ, ap, subst, sym}
use Rattle.pc_chain.specs.declared.chain.Chain.{Chain}
use Rattle.pc_locks.specs.Keepers.{AreEnds}
use Rattle.pc_slots.specs.Slots.{undone}
use Rattle.pc_records.specs.Ends.{queues_in}
use Rattle.pc_records.specs.Floor.{Floor, has_spot}
use Rattle.pc_records.proofs.FloorLaws.{floor_changed, kept_changed, spot_row}
use Rattle.pc_records.proofs.Moments.{undone_key, undone_number}
use Rattle.pc_records.proofs.Listing.{kept_listed}
use Rattle.pc_records.proofs.SpotSets.{whole_there}
use Rattle.pc_records.proofs.floor.KeySlots.undo.Goals as goal

pub undo_slot-requires : goal.undo_slot-requires
undo_slot-requires c = spot_row c.self.inside.sets.side (queues_in c.self.inside.table.rows c.self.inside.locks) c.args.id c.self.inside.table.rows (ap (λ (f : Floor). has_spot f.spots c.args.id) c.self.view_is ∙ c.requires.there)

pub invariant_of-self : goal.invariant_of-self
invariant_of-self c = (
  kept_changed (undone c.args.point) c.args.id c.self.inside.table c.undo_slot.new.table c.self.inside.locks c.open_side-side.result c.self.inside.sets.side c.open_side-side.ensures
      (undone_number c.args.point) (undone_key c.args.point) c.undo_slot.ensures.slots c.undo_slot.ensures.ends c.self.invariant.0,
  subst (λ (e : ℕ → Chain ℕ). AreEnds e c.self.inside.locks) (sym c.undo_slot.ensures.ends) c.self.invariant.1,
  kept_listed c.self.inside.table.rows c.undo_slot.new.table.rows c.self.inside.sets c.undo_slot.ensures.sets c.self.invariant.2,
)

pub returns-clause-undone : goal.returns-clause-undone
returns-clause-undone c =
    rw (← c.self.view_is)
    (floor_changed (undone c.args.point) c.args.id c.self.inside.table c.undo_slot.new.table c.self.inside.locks c.self.inside.sets c.open_side-side.result c.open_side-side.ensures
    (undone_number c.args.point) c.undo_slot.ensures.slots c.undo_slot.ensures.capacity c.undo_slot.ensures.ends c.undo_slot.ensures.sets c.self.invariant.2)

pub returns-clause-whole : goal.returns-clause-whole
returns-clause-whole c = whole_there c.undo_slot.new.table c.self.inside.locks c.self.inside.sets (invariant_of-self c)
