use Rattle.pc_recover.specs.Recovery.{read_files}
use Rattle.pc_recover.proofs.Walking.{IsReached}
use Rattle.pc_recover.proofs.reach.reach_from.Given as goal

-- the facts of the points so far
abbrev pub invariant-loop-below : goal.invariant-loop-below
invariant-loop-below l = IsReached l.fn.base (read_files l.files) l.below l.point l.needed
