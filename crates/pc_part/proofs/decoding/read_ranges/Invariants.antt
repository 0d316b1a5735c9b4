use Rattle.std.proofs.Common.{◌≡◌, ◌-◌}
use Rattle.pc_part.specs.Reading.{ranges_at}
use Rattle.pc_part.proofs.ItemLaws.{with_front}
use Rattle.pc_part.proofs.decoding.read_ranges.Given as goal

-- what was read, and what is still read, is what is read of all
abbrev pub invariant-loop : goal.invariant-loop
invariant-loop l = with_front l.ranges.items (ranges_at (l.count - l.counter) l.least l.rest) ≡ ranges_at l.count 1 l.bytes
