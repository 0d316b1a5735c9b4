use Rattle.std.proofs.Common.{◌≡◌, ◌+◌, ◌-◌, ◌≤◌}
use Rattle.std.specs.Prelude.{slice_range}
use Rattle.std.specs.List.{flat_map}
use Rattle.pc_kept_log.specs.Logs.{entries_of}
use Rattle.pc_log.specs.Texts.{entry_text}
use Rattle.pc_kept_log.proofs.log.Log.copied_texts.Given as goal

-- that many of them were gathered
abbrev pub invariant-loop-done : goal.invariant-loop-done
invariant-loop-done l = record {
  so_far : l.bytes.items ≡ flat_map entry_text (slice_range (entries_of l.self) l.from (l.from + l.done));
  within : l.done ≤ l.count;
}

abbrev pub decreases-loop-done : goal.decreases-loop-done
decreases-loop-done l = l.count - l.done
