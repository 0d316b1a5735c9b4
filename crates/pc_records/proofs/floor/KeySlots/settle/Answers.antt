use Rattle.std.proofs.Common.{◌∙◌, ℕ, ap, subst, sym}
use Rattle.pc_chain.specs.declared.chain.Chain.{Chain}
use Rattle.pc_dirty.specs.declared.side.Side.{Side}
use Rattle.pc_locks.specs.Keepers.{AreEnds}
use Rattle.pc_slots.specs.Slots.{settled}
use Rattle.pc_records.specs.Ends.{queues_in}
use Rattle.pc_records.specs.Slots.{slots_in, AreSlotsKept}
use Rattle.pc_records.specs.Floor.{Floor, has_spot}
use Rattle.pc_records.proofs.FloorLaws.{floor_settled, kept_changed, spot_row}
use Rattle.pc_records.proofs.Moments.{settled_key, settled_number}
use Rattle.pc_records.proofs.SpotSets.{whole_there}
use Rattle.pc_records.proofs.floor.KeySlots.settle.Goals as goal
use Rattle.std.proofs.Common.{refl}

pub settle_slot-requires-clause-row : goal.settle_slot-requires-clause-row
settle_slot-requires-clause-row c = spot_row c.self.inside.sets.side (queues_in c.self.inside.table.rows c.self.inside.locks) c.args.id c.self.inside.table.rows (ap (λ (f : Floor). has_spot f.spots c.args.id) c.self.view_is ∙ c.requires.there)

pub settle_slot-requires-clause-listed : goal.settle_slot-requires-clause-listed
settle_slot-requires-clause-listed c = c.self.invariant.2

pub invariant_of-self : goal.invariant_of-self
invariant_of-self c = (
  subst (λ (s : Side). AreSlotsKept (slots_in s c.settle_slot.new.table.rows) (queues_in c.settle_slot.new.table.rows c.self.inside.locks)) (sym c.settle_slot.ensures.side)
      (kept_changed (settled c.args.point) c.args.id c.self.inside.table c.settle_slot.new.table c.self.inside.locks c.self.inside.sets.side c.self.inside.sets.side refl
      (settled_number c.args.point) (settled_key c.args.point) c.settle_slot.ensures.slots c.settle_slot.ensures.ends c.self.invariant.0),
  subst (λ (e : ℕ → Chain ℕ). AreEnds e c.self.inside.locks) (sym c.settle_slot.ensures.ends) c.self.invariant.1,
  c.settle_slot.ensures.listed,
)

pub returns-clause-settled : goal.returns-clause-settled
returns-clause-settled c =
    rw (← c.self.view_is)
    (floor_settled c.args.point c.args.id c.self.inside.table c.settle_slot.new.table c.self.inside.locks c.self.inside.sets c.settle_slot.new.sets
    c.settle_slot.ensures.slots c.settle_slot.ensures.capacity c.settle_slot.ensures.ends c.settle_slot.ensures.side c.settle_slot.ensures.opened c.settle_slot.ensures.closed)

pub returns-clause-whole : goal.returns-clause-whole
returns-clause-whole c = whole_there c.settle_slot.new.table c.self.inside.locks c.settle_slot.new.sets (invariant_of-self c)
