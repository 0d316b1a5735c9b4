use Rattle.std.proofs.Common.{◌≡◌, take}
use Rattle.std.specs.List.{flat_map}
use Rattle.std.specs.Io.KnownBytes.{Appends}
use Rattle.pc_reasons.specs.Told.{bad_line_text}
use Rattle.pc_reasons.proofs.told_lines.put_each.Given as goal

abbrev pub invariant-loop-line : goal.invariant-loop-line
invariant-loop-line g l =
    let contents = g.W.Write.contents in
    record {
      sent : Appends (contents l.fn.out.inner) (contents l.out.inner) (flat_map (bad_line_text l.name) (take l.line-index l.bad));
      counted : l.out.failures ≡ l.fn.out.failures;
    }
