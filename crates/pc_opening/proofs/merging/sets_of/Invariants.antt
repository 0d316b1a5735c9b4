use Rattle.std.proofs.Common.{◌≡◌, ◌++◌, map}
use Rattle.std.specs.Vec.Iter.{into_iter_items}
use Rattle.pc_opening.specs.Merging.{pair_write}
use Rattle.pc_opening.proofs.merging.sets_of.Given as goal

-- the writes of the pairs so far, and of those to come
abbrev pub invariant-loop-pair : goal.invariant-loop-pair
invariant-loop-pair l = l.writes.items ++ map pair_write (into_iter_items l.pair-iterator) ≡ map pair_write l.fn.pairs.items
