use Rattle.pc_recover.proofs.Reaching.{all_ranges}
use Rattle.pc_recover.proofs.reach.note_part.Goals as goal

pub returns-clause-tops : goal.returns-clause-tops
returns-clause-tops c = all_ranges c.args.part.now c.ranges-range-items.result.now c.greatest_point-top.result c.loop-range.range-index c.args.tops.now c.loop-range.tops c.greatest_point-top.ensures c.ranges-range-items.ensures.points c.loop-range-test.false c.loop-range.invariant
