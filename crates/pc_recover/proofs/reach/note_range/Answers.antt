use Rattle.std.proofs.Common.{◌≡◌, ap, ◌∙◌, arith}
use Rattle.pc_part.specs.declared.ranges.Range.{Range}
use Rattle.pc_recover.proofs.Reaching.{range_noted}
use Rattle.pc_recover.proofs.reach.note_range.Goals as goal

pub returns-clause-tops : goal.returns-clause-tops
returns-clause-tops c =
    let high : c.from-place-end.result ≡ c.args.range.high = c.from-place-end.ensures ∙ ap (λ (r : Range). r.high) c.range.view_is in
    let past = c.loop-place-test.false in
    range_noted c.args.tops.now c.loop-place.tops c.args.range.low c.args.range.high c.loop-place.place c.args.top c.loop-place.invariant.noted (omega (arith, high, past)) c.loop-place.invariant.ends
