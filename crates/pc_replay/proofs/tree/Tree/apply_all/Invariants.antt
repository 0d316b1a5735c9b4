use Rattle.std.proofs.Common.{◌≡◌, drop}
use Rattle.pc_model.specs.Database.{applied_all}
use Rattle.pc_replay.proofs.tree.Tree.apply_all.Given as goal

abbrev pub invariant-loop-write : goal.invariant-loop-write
invariant-loop-write l = applied_all l.self (drop l.write-index l.writes) ≡ applied_all l.fn.self l.writes
