use Rattle.std.proofs.Common.{◌≡◌, take}
use Rattle.std.specs.List.{AllWithin, flat_map}
use Rattle.std.specs.Io.KnownBytes.{Appends}
use Rattle.pc_bases.specs.Lawful.{IsPair}
use Rattle.pc_bases.specs.Texts.{base_pair_text}
use Rattle.pc_bases.proofs.base_encoding.put_pairs.Given as goal

-- that many of them went out
abbrev pub invariant-loop-key : goal.invariant-loop-key
invariant-loop-key g l =
    let contents = g.W.Write.contents in
    record {
      sent : Appends (contents l.fn.out.inner) (contents l.out.inner) (flat_map base_pair_text (take l.key-index l.pairs));
      counted : l.out.failures ≡ l.fn.out.failures;
      lawful : AllWithin IsPair l.pairs 0 l.key-index;
    }
