use Rattle.std.proofs.Common.{◌≡◌}
use Rattle.pc_model.specs.Database.{applied_all}
use Rattle.pc_audit.proofs.table.Table.apply_all.Given as goal

abbrev pub invariant-loop-write : goal.invariant-loop-write
invariant-loop-write l = applied_all l.self l.write-iterator ≡ applied_all l.fn.self l.fn.writes
