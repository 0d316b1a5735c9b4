-- The union of ranges, which are added in order, by their first points.
use Rattle.std.specs.Prelude.{◌+◌, nat_le, max, Bool, List, [], ◌∷◌, if◌then◌else◌}
use Rattle.pc_part.specs.declared.ranges.Range.{Range}

-- no point is left out between a range and the next one
abbrev pub meets : Range → Range → Bool
meets last next = nat_le next.low (last.high + 1)

-- the range up to the greater end of both
abbrev pub widened : Range → Range → Range
widened last next = record { low = last.low; high = max last.high next.high }

-- the ranges with one more after them, by which the last one is widened if they meet
abbrev pub with_range_after : List Range → Range → List Range
with_range_after [] range = range ∷ []
with_range_after (last ∷ []) range = if meets last range then widened last range ∷ [] else last ∷ range ∷ []
with_range_after (first ∷ second ∷ ranges) range = first ∷ with_range_after (second ∷ ranges) range
