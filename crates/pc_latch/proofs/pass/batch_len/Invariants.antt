use Rattle.std.proofs.Common.{◌≡◌, ◌+◌, ◌++◌, take, drop}
use Rattle.pc_kept_log.specs.Logs.{entries_of}
use Rattle.pc_latch.specs.Batches.{batch}
use Rattle.pc_latch.proofs.pass.batch_len.Given as goal

-- the batch has this many entries, and then those for which room is left
abbrev pub invariant-loop-place : goal.invariant-loop-place
invariant-loop-place l = (l.place ≡ l.first + l.count) × (take l.count (drop l.first (entries_of l.log)) ++ batch l.left (drop l.count (drop l.first (entries_of l.log))) ≡ batch l.room (drop l.first (entries_of l.log)))
