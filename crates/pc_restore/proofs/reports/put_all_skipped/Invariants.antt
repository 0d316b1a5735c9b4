use Rattle.std.proofs.Common.{◌≡◌, take}
use Rattle.std.specs.List.{flat_map}
use Rattle.std.specs.Io.KnownBytes.{Appends}
use Rattle.pc_restore.specs.Reports.{skipped_line}
use Rattle.pc_restore.specs.Recoveries.{names_of}
use Rattle.pc_restore.proofs.reports.put_all_skipped.Given as goal

abbrev pub invariant-loop-one : goal.invariant-loop-one
invariant-loop-one g l =
    let contents = g.W.Write.contents in
    record {
      sent : Appends (contents l.fn.out.inner) (contents l.out.inner) (flat_map (skipped_line (names_of l.parts)) (take l.one-index l.skipped));
      counted : l.out.failures ≡ l.fn.out.failures;
    }
