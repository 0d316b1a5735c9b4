use Rattle.std.proofs.Common.{◌≡◌, take}
use Rattle.std.specs.List.{flat_map}
use Rattle.std.specs.Io.KnownBytes.{Appends}
use Rattle.pc_texts.specs.Texts.{pair_text}
use Rattle.pc_texts.proofs.texts.put_each.Given as goal

abbrev pub invariant-loop-pair : goal.invariant-loop-pair
invariant-loop-pair g l =
    let contents = g.W.Write.contents in
    record {
      sent : Appends (contents l.fn.out.inner) (contents l.out.inner) (flat_map pair_text (take l.pair-index l.pairs));
      counted : l.out.failures ≡ l.fn.out.failures;
    }
