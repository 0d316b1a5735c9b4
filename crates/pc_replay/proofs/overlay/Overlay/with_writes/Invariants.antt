use Rattle.std.proofs.Common.{◌≡◌}
use Rattle.std.specs.Vec.Iter.{into_iter_items}
use Rattle.pc_model.specs.Database.{applied_all}
use Rattle.pc_replay.proofs.overlay.Overlay.with_writes.Given as goal

-- what is left to apply
abbrev pub invariant-loop-write : goal.invariant-loop-write
invariant-loop-write l = applied_all l.overlay (into_iter_items l.write-iterator) ≡ applied_all l.fn.self l.fn.writes
