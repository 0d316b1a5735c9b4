use Rattle.std.proofs.Common.{◌≡◌, ◌++◌, drop}
use Rattle.pc_recover.specs.Recovery.{unused_from}
use Rattle.pc_recover.proofs.unused.unused.Given as goal

-- the unused files so far, and those that are left
abbrev pub invariant-loop-place : goal.invariant-loop-place
invariant-loop-place l = l.unused.items ++ unused_from l.place l.reach.point l.reach.missing (drop l.place l.files) ≡ unused_from 0 l.reach.point l.reach.missing l.files
