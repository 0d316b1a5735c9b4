use Rattle.std.proofs.Common.{◌≡◌, ◌++◌, length}
use Rattle.pc_replay.proofs.ChangeLemmas.{overlays, overlays_from}
use Rattle.pc_replay.proofs.overlay.merged.Given as goal

-- the pairs so far, before those that the items to come make
abbrev pub invariant-loop-item : goal.invariant-loop-item
invariant-loop-item l = l.out.items ++ overlays_from l.fn.pairs.items l.fn.changes.entries (length l.yielded) ≡ overlays l.fn.pairs.items l.fn.changes.entries
