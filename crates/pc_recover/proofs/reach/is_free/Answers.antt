use Rattle.pc_recover.proofs.ApartFiles.{file_free}
use Rattle.pc_recover.proofs.reach.is_free.Goals as goal

pub returns : goal.returns
returns c = λ free. file_free c.args.tops.now c.args.part.now c.ranges-range-items.result.now c.loop-range.range-index c.ranges-range-items.ensures.apart c.ranges-range-items.ensures.points c.loop-range-test.false c.loop-range.invariant
