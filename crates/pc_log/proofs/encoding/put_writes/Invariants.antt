use Rattle.std.proofs.Common.{◌≡◌, take}
use Rattle.std.specs.List.{flat_map}
use Rattle.std.specs.Io.KnownBytes.{Appends}
use Rattle.pc_log.specs.Texts.{write_text}
use Rattle.pc_log.proofs.encoding.put_writes.Given as goal

-- that many of them went out
abbrev pub invariant-loop-write : goal.invariant-loop-write
invariant-loop-write g l =
    let contents = g.W.Write.contents in
    record {
      sent : Appends (contents l.fn.out.inner) (contents l.out.inner) (flat_map write_text (take l.write-index l.writes));
      counted : l.out.failures ≡ l.fn.out.failures;
    }
