use Rattle.std.proofs.Common.{◌≡◌, ◌+◌, length, arith}
use Rattle.pc_part.specs.declared.ranges.Range.{Range}
use Rattle.pc_part.specs.Reading.{range_at}
use Rattle.pc_part.proofs.ItemLaws.{items_count}
use Rattle.pc_part.proofs.decoding.read_header.Goals as goal

pub returns-clause-apart : goal.returns-clause-apart
returns-clause-apart c =
    let many : length c.in_ok-ranges.ranges.items ≡ c.in_ok-range_count.range_count = items_count range_at (λ (r : Range). r.high + 2) _ _ _ _ c.in_ok-ranges.ensures.read in
    (omega (arith, many, c.if-range_count-eq0.false), c.in_ok-ranges.ensures.apart)
