use Rattle.std.proofs.Common.{◌≡◌, ◌<◌, ◌++◌, List, ℕ, drop}
use Rattle.std.specs.Io.KnownBytes.{Appends}
use Rattle.pc_model.specs.Ranges.{with_range_before, ranges_of}
use Rattle.pc_texts.specs.Texts.{ranges_text}
use Rattle.pc_texts.proofs.texts.put_ranges.Given as goal

abbrev pub invariant-loop-point : goal.invariant-loop-point
invariant-loop-point g l =
    let contents = g.W.Write.contents in
    record {
      small : l.high < 65536;
      counted : l.out.failures ≡ l.fn.out.failures;
      sent : (text : List ℕ) × Appends (contents l.fn.out.inner) (contents l.out.inner) text
          × (text ++ ranges_text (with_range_before l.low l.high (ranges_of (drop l.point-index l.others))) ≡ ranges_text (ranges_of l.points));
    }
