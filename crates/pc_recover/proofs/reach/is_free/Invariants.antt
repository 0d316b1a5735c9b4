use Rattle.std.proofs.Common.{take}
use Rattle.pc_recover.proofs.ApartFiles.{AreFree}
use Rattle.pc_recover.proofs.reach.is_free.Given as goal

-- nothing is noted in the ranges so far
abbrev pub invariant-loop-range : goal.invariant-loop-range
invariant-loop-range l = AreFree l.tops (take l.range-index l.range-items)
