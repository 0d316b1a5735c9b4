use Rattle.std.proofs.Common.{◌∙◌, ℕ, ap, subst, sym}
use Rattle.pc_chain.specs.declared.chain.Chain.{Chain}
use Rattle.pc_locks.specs.Keepers.{AreEnds}
use Rattle.pc_slots.specs.Slots.{put_slot}
use Rattle.pc_records.specs.Ends.{queues_in}
use Rattle.pc_records.specs.Floor.{Floor, has_spot}
use Rattle.pc_records.proofs.FloorLaws.{floor_changed, kept_changed, put_key, put_number, spot_row}
use Rattle.pc_records.proofs.Listing.{kept_listed}
use Rattle.pc_records.proofs.SpotSets.{whole_there}
use Rattle.pc_records.proofs.floor.KeySlots.put.Goals as goal

pub put_at-requires-clause-row : goal.put_at-requires-clause-row
put_at-requires-clause-row c = spot_row c.self.inside.sets.side (queues_in c.self.inside.table.rows c.self.inside.locks) c.args.id c.self.inside.table.rows (ap (λ (f : Floor). has_spot f.spots c.args.id) c.self.view_is ∙ c.requires.there)

pub invariant_of-self : goal.invariant_of-self
invariant_of-self c =
    let w = c.args.write in (
      kept_changed (put_slot c.args.point w.author.transaction w.author.class w.copy w.value) c.args.id c.self.inside.table c.put_at.new.table c.self.inside.locks c.open_side-side.result c.self.inside.sets.side c.open_side-side.ensures
          (put_number c.args.point w.author.transaction w.author.class w.copy w.value) (put_key c.args.point w.author.transaction w.author.class w.copy w.value) c.put_at.ensures.slots c.put_at.ensures.ends c.self.invariant.0,
      subst (λ (e : ℕ → Chain ℕ). AreEnds e c.self.inside.locks) (sym c.put_at.ensures.ends) c.self.invariant.1,
      kept_listed c.self.inside.table.rows c.put_at.new.table.rows c.self.inside.sets c.put_at.ensures.sets c.self.invariant.2,
    )

pub returns-clause-put : goal.returns-clause-put
returns-clause-put c =
    let w = c.args.write in
    rw (← c.self.view_is)
    (floor_changed (put_slot c.args.point w.author.transaction w.author.class w.copy w.value) c.args.id c.self.inside.table c.put_at.new.table c.self.inside.locks c.self.inside.sets c.open_side-side.result c.open_side-side.ensures
    (put_number c.args.point w.author.transaction w.author.class w.copy w.value) c.put_at.ensures.slots c.put_at.ensures.capacity c.put_at.ensures.ends c.put_at.ensures.sets c.self.invariant.2)

pub returns-clause-whole : goal.returns-clause-whole
returns-clause-whole c = whole_there c.put_at.new.table c.self.inside.locks c.self.inside.sets (invariant_of-self c)
