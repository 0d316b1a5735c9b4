use Rattle.pc_replay.proofs.FirstOfEach.{first_next, first_all}
use Rattle.pc_replay.proofs.rising.first_of_each.Goals as goal

pub loop-i-preserved : goal.loop-i-preserved
loop-i-preserved c = first_next c.args.entries.now c.loop-i.first c.put.new.entries c.loop-i.i c.index-entries-entries.result c.loop-i-test.true c.index-entries-entries.is c.loop-i.invariant c.in_ok-put.ensures

pub returns : goal.returns
returns c = first_all (λ v. v.items) c.args.entries.now c.loop-i.first c.loop-i.i c.entries_in.result c.loop-i-test.false c.loop-i.invariant c.entries_in.ensures.ordered c.entries_in.ensures.same
