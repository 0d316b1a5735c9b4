use Rattle.std.proofs.Common.{◌≡◌, ◌+◌, ◌≤◌, length}
use Rattle.pc_bases.proofs.LaidLists.{lays, lays_from}
use Rattle.pc_bases.proofs.laying.laid_len.Given as goal

-- the pairs that are counted, and those that are left of the items to come
abbrev pub invariant-loop-item : goal.invariant-loop-item
invariant-loop-item l = (l.len + length (lays_from l.point l.pairs l.triples (length l.yielded)) ≡ length (lays l.point l.pairs l.triples)) × (l.len ≤ length l.yielded)
