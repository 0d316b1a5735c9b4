use Rattle.pc_records.proofs.EndsKept.{ends_set, ends_others, slots_kept}
use Rattle.pc_records.proofs.ends.TableCellQueueEndsByEnds.set_ends.Goals as goal

pub returns-clause-set : goal.returns-clause-set
returns-clause-set c = ends_set c.args.self.now c.get_mut.ensures.slots c.args.slot c.get_mut.result.now c.get_mut.ensures.record_of c.put_ends.new.cell c.put_ends.ensures.rest c.args.ends c.put_ends.ensures.chain

pub returns-clause-others : goal.returns-clause-others
returns-clause-others c = ends_others c.args.self.now c.get_mut.ensures.slots c.args.slot c.get_mut.result.now c.get_mut.ensures.record_of c.put_ends.new.cell c.put_ends.ensures.rest c.args.ends c.put_ends.ensures.chain

pub returns-clause-beside : goal.returns-clause-beside
returns-clause-beside c = slots_kept c.args.self.now c.get_mut.ensures.slots c.args.slot c.get_mut.result.now c.get_mut.ensures.record_of c.put_ends.new.cell c.put_ends.ensures.rest c.args.ends c.put_ends.ensures.chain
