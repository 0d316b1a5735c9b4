use Rattle.std.proofs.Common.{◌≡◌, ◌-◌, length, drop}
use Rattle.pc_model.specs.Database.{database_of}
use Rattle.pc_audit.proofs.table.Table.of_pairs.Given as goal

-- the last pairs so far
abbrev pub invariant-loop-i : goal.invariant-loop-i
invariant-loop-i l = l.table ≡ database_of (drop (length l.pairs - l.i) l.pairs)
