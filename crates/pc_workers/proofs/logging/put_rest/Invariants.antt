use Rattle.std.proofs.Common.{◌≤◌, ◌-◌, Ok, length}
use Rattle.std.specs.Prelude.{slice_range}
use Rattle.std.specs.List.{flat_map}
use Rattle.pc_io.specs.Tallies.{Puts}
use Rattle.pc_kept_log.specs.Logs.{entries_of}
use Rattle.pc_log.specs.Texts.{entry_text}
use Rattle.pc_workers.proofs.logging.put_rest.Given as goal

-- this many of them went out
abbrev pub invariant-loop-done : goal.invariant-loop-done
invariant-loop-done g l = record {
  sent : Puts g.W.Write.contents l.fn.out l.out (Ok tt) (flat_map entry_text (slice_range (entries_of l.log) l.closed.logged l.done));
  later : l.closed.logged ≤ l.done;
}

abbrev pub decreases-loop-done : goal.decreases-loop-done
decreases-loop-done g l = length (entries_of l.log) - l.done
