use Rattle.std.proofs.Common.{refl}
use Rattle.pc_slots.specs.Slots.{taken_slot}
use Rattle.pc_records.proofs.TableSlots.{changed_slots, row_stays}
use Rattle.pc_records.proofs.Marking.{unmarked}
use Rattle.pc_records.proofs.EndsKept.{ends_changed}
use Rattle.pc_records.proofs.slots.mark_taken.Goals as goal

pub returns-clause-slots : goal.returns-clause-slots
returns-clause-slots c = changed_slots c.args.side c.args.table.now c.args.id c.get_mut.result.now c.take.new.slot taken_slot c.get_mut.ensures.slots c.get_mut.ensures.record_of c.take.ensures.slot

pub returns-clause-row : goal.returns-clause-row
returns-clause-row c = row_stays c.args.side c.args.table.now.rows _ taken_slot c.args.id (λ s. refl) (returns-clause-slots c) c.requires

pub returns-clause-marks : goal.returns-clause-marks
returns-clause-marks c = unmarked c.args.table.now.rows c.args.id c.get_mut.result.now c.take.new.slot c.get_mut.ensures.record_of c.args.side c.take.ensures.links c.take.ensures.slot

pub returns-clause-ends : goal.returns-clause-ends
returns-clause-ends c = ends_changed c.args.table.now.rows c.args.id c.get_mut.result.now c.take.new.slot c.get_mut.ensures.record_of c.take.ensures.ends
