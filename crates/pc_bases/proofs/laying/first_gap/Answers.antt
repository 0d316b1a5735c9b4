use Rattle.std.proofs.Common.{◌≡◌, ap, ◌∙◌}
use Rattle.pc_part.specs.declared.ranges.Range.{Range}
use Rattle.pc_bases.proofs.GapLaws.{gap_here, no_gap}
use Rattle.pc_bases.proofs.laying.first_gap.Goals as goal

pub returns-then-next-from : goal.returns-then-next-from
returns-then-next-from c =
    let low : c.from.result ≡ c.range-item.result.low = c.from.ensures ∙ ap (λ (r : Range). r.low) c.range.view_is in
    gap_here c.args.point c.args.ranges.now c.requires.1 c.loop-range.next c.loop-range.range-index c.loop-range.invariant c.range-item.result c.loop-range-test.true c.range-item.is (rw (← low) c.if-next-from.true)

pub returns : goal.returns
returns c = no_gap c.args.point c.args.ranges.now c.requires.1 c.loop-range.next c.loop-range.range-index c.loop-range.invariant c.loop-range-test.false
