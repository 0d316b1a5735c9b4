use Rattle.pc_slots.specs.Slots.{undone}
use Rattle.pc_records.proofs.TableSlots.{changed_slots}
use Rattle.pc_records.proofs.KeepingSets.{changed_sets}
use Rattle.pc_records.proofs.EndsKept.{ends_changed}
use Rattle.pc_records.proofs.slots.undo_slot.Goals as goal

pub returns-clause-slots : goal.returns-clause-slots
returns-clause-slots c = changed_slots c.args.stage.side c.args.table.now c.args.id c.get_mut.result.now c.undo.new.slot (undone c.args.stage.point) c.get_mut.ensures.slots c.get_mut.ensures.record_of c.undo.ensures.slot

pub returns-clause-sets : goal.returns-clause-sets
returns-clause-sets c = changed_sets c.args.table.now.rows c.args.id c.get_mut.result.now c.undo.new.slot c.get_mut.ensures.record_of c.undo.ensures.words

pub returns-clause-ends : goal.returns-clause-ends
returns-clause-ends c = ends_changed c.args.table.now.rows c.args.id c.get_mut.result.now c.undo.new.slot c.get_mut.ensures.record_of c.undo.ensures.ends
