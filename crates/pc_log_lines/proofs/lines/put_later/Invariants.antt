use Rattle.std.proofs.Common.{◌≡◌, take}
use Rattle.std.specs.List.{flat_map}
use Rattle.std.specs.Io.KnownBytes.{Appends}
use Rattle.pc_log_lines.specs.Lines.{later_words}
use Rattle.pc_log_lines.proofs.lines.put_later.Given as goal

abbrev pub invariant-loop-write : goal.invariant-loop-write
invariant-loop-write g l =
    let contents = g.W.Write.contents in
    record {
      sent : Appends (contents l.fn.out.inner) (contents l.out.inner) (flat_map later_words (take l.write-index l.writes));
      counted : l.out.failures ≡ l.fn.out.failures;
    }
