use Rattle.std.proofs.Common.{◌≡◌, ◌≤◌, ◌+◌, ◌++◌, ℕ, List, length}
use Rattle.std.specs.Io.KnownBytes.{Appends}
use Rattle.pc_log.specs.Orders.{no_token}
use Rattle.pc_log.specs.Reading.{all_at}
use Rattle.pc_log_lines.specs.Lines.{lines_behind, rest_found}
use Rattle.pc_log_lines.proofs.reading.put_behind.Given as goal

-- the lines of the entries that were read went out, those after them are still to come, and no fewer bytes were read than entries
abbrev pub invariant-loop-rest : goal.invariant-loop-rest
invariant-loop-rest g l =
    let contents = g.W.Write.contents in
    record {
      sent : (text : List ℕ) × Appends (contents l.fn.out.inner) (contents l.out.inner) text × (text ++ lines_behind l.range l.count (all_at l.format l.last l.rest).entries ≡ lines_behind l.range 0 (all_at l.format no_token l.bytes).entries);
      counted : l.out.failures ≡ l.fn.out.failures;
      left : rest_found (all_at l.format l.last l.rest) ≡ rest_found (all_at l.format no_token l.bytes);
      room : l.count + length l.rest ≤ length l.bytes;
    }

abbrev pub decreases-loop-rest : goal.decreases-loop-rest
decreases-loop-rest g l = length l.rest
