use Rattle.std.proofs.Common.{◌≡◌, ◌++◌, List, ℕ, length}
use Rattle.std.specs.List.{flat_map}
use Rattle.std.specs.Io.KnownBytes.{Appends}
use Rattle.pc_texts.specs.Texts.{hex_byte}
use Rattle.pc_texts.proofs.texts.put_hex.Given as goal

-- the text of the bytes before the rest went out
abbrev pub invariant-loop-rest : goal.invariant-loop-rest
invariant-loop-rest g l =
    let contents = g.W.Write.contents in
    record {
      sent : (text : List ℕ) × Appends (contents l.fn.out.inner) (contents l.out.inner) text × (text ++ flat_map hex_byte l.rest ≡ flat_map hex_byte l.bytes);
      counted : l.out.failures ≡ l.fn.out.failures;
    }

abbrev pub decreases-loop-rest : goal.decreases-loop-rest
decreases-loop-rest g l = length l.rest
