use Rattle.std.proofs.Common.{◌≡◌, take}
use Rattle.std.specs.List.{flat_map}
use Rattle.std.specs.Io.KnownBytes.{Appends}
use Rattle.pc_part.specs.Texts.{bounds_text}
use Rattle.pc_part.proofs.encoding.put_ranges.Given as goal

-- that many of them went out
abbrev pub invariant-loop-range : goal.invariant-loop-range
invariant-loop-range g l =
    let contents = g.W.Write.contents in
    record {
      sent : Appends (contents l.fn.out.inner) (contents l.out.inner) (flat_map bounds_text (take l.range-index l.ranges));
      counted : l.out.failures ≡ l.fn.out.failures;
    }
