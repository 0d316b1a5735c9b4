use Rattle.std.proofs.Common.{◌≡◌, ◌++◌, length}
use Rattle.pc_bases.proofs.LaidLists.{lays, lays_from}
use Rattle.pc_bases.proofs.laying.lay_in_order.Given as goal

-- the pairs that are laid, before those that are left of the items to come
abbrev pub invariant-loop-item : goal.invariant-loop-item
invariant-loop-item l = l.out.items ++ lays_from l.fn.point l.fn.pairs l.fn.triples (length l.yielded) ≡ lays l.fn.point l.fn.pairs l.fn.triples
