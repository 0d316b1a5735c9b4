use Rattle.std.proofs.Common.{◌<◌, length, sym, arith}
use Rattle.pc_part.proofs.CoveringRanges.{covers_none, covers_at}
use Rattle.pc_part.proofs.decoding.is_covered.Goals as goal

pub returns-then-ended-ranges : goal.returns-then-ended-ranges
returns-then-ended-ranges c = sym (covers_none c.args.point c.args.ranges.now (λ k d lt. c.ended_before-ended.ensures.ends.0 k d (omega arith) (omega (arith, lt, c.if-ended-ranges.true))))

pub returns : goal.returns
returns c =
    let ended = c.ended_before-ended.result in
    let range = c.index-ranges-ended.result in
    let within : ended < length c.args.ranges.now = omega (arith, c.ended_before-ended.ensures.bound, c.if-ended-ranges.false) in
    let ends = c.ended_before-ended.ensures.ends in
    rw (c.from.ensures, c.low.view_is) (sym (covers_at 1 c.args.point c.args.ranges.now ended range c.requires within (λ k more. ends.0 k range (omega arith) more) (ends.1 ended range (omega arith) within)))
