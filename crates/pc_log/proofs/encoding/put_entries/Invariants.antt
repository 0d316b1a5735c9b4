use Rattle.std.proofs.Common.{◌≡◌, take}
use Rattle.std.specs.List.{flat_map}
use Rattle.std.specs.Io.KnownBytes.{Appends}
use Rattle.pc_log.specs.Texts.{entry_text}
use Rattle.pc_log.proofs.encoding.put_entries.Given as goal

-- that many of them went out
abbrev pub invariant-loop-entry : goal.invariant-loop-entry
invariant-loop-entry g l =
    let contents = g.W.Write.contents in
    record {
      sent : Appends (contents l.fn.out.inner) (contents l.out.inner) (flat_map entry_text (take l.entry-index l.entries));
      counted : l.out.failures ≡ l.fn.out.failures;
    }
