use Rattle.std.proofs.Common.{◌≡◌, ◌-◌, length, []}
use Rattle.pc_part.specs.Reading.{last_key, part_entries_at}
use Rattle.pc_part.proofs.ItemLaws.{with_front}
use Rattle.pc_part.proofs.decoding.read_entries.Given as goal

-- what was read, and what is still read, is what is read of all
abbrev pub invariant-loop : goal.invariant-loop
invariant-loop l = with_front l.entries.items (part_entries_at l.format (length l.bytes - l.counter) l.ranges (last_key l.entries.items) l.rest) ≡ part_entries_at l.format (length l.bytes) l.ranges [] l.bytes
