use Rattle.std.proofs.Common.{◌≡◌, ◌-◌, []}
use Rattle.pc_bases.specs.Reading.{pairs_at, last_pair_key}
use Rattle.pc_part.proofs.ItemLaws.{with_front}
use Rattle.pc_bases.proofs.base_decoding.read_pairs.Given as goal

-- what was read, and what is still read, is what is read of all
abbrev pub invariant-loop : goal.invariant-loop
invariant-loop l = with_front l.pairs.items (pairs_at l.format (l.count - l.counter) (last_pair_key l.pairs.items) l.rest) ≡ pairs_at l.format l.count [] l.bytes
