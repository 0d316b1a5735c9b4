use Rattle.std.proofs.Common.{◌≡◌, ◌≤◌, ◌-◌, true, length}
use Rattle.std.specs.Prelude.{slice_range}
use Rattle.std.specs.List.{flat_map}
use Rattle.pc_kept_log.specs.Logs.{entries_of}
use Rattle.pc_log.specs.Texts.{entry_text}
use Rattle.pc_turn.specs.Turns.{IsAppended}
use Rattle.pc_turn.proofs.turn.put_behind.Given as goal

-- that many of them were appended
abbrev pub invariant-loop-done : goal.invariant-loop-done
invariant-loop-done g l = record {
  sent : IsAppended g.L.LogDevice.written g.L.LogDevice.kept (flat_map entry_text (slice_range (entries_of l.kept) l.written l.done)) l.fn.log l.log true;
  later : l.written ≤ l.done;
  none : length (entries_of l.kept) ≤ l.written → l.log ≡ l.fn.log;
}

abbrev pub decreases-loop-done : goal.decreases-loop-done
decreases-loop-done g l = length (entries_of l.kept) - l.done
