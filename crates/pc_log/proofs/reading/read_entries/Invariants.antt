use Rattle.std.proofs.Common.{◌≡◌, length}
use Rattle.pc_log.specs.Orders.{no_token}
use Rattle.pc_log.proofs.TurnLaws.{with_front}
use Rattle.pc_log.specs.Reading.{all_at}
use Rattle.pc_log.proofs.reading.read_entries.Given as goal

-- what is read from here on, after the entries so far, is what is read from the start
abbrev pub invariant-loop-rest : goal.invariant-loop-rest
invariant-loop-rest l = with_front l.entries.items (all_at l.format l.last l.rest) ≡ all_at l.format no_token l.bytes

abbrev pub decreases-loop-rest : goal.decreases-loop-rest
decreases-loop-rest l = length l.rest
