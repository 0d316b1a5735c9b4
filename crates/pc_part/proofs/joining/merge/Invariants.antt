use Rattle.std.proofs.Common.{◌≡◌, ◌++◌, ◌+◌, length}
use Rattle.pc_model.specs.TripleLists.{map_entries}
use Rattle.pc_part.proofs.JoinedLists.{joins}
use Rattle.pc_part.proofs.joining.merge.Given as goal

-- what is merged, before what is made of the triples to come
abbrev pub invariant-loop-side : goal.invariant-loop-side
invariant-loop-side l = map_entries l.out.items ++ joins l.first l.second ≡ joins l.fn.a l.fn.b

abbrev pub decreases-loop-side : goal.decreases-loop-side
decreases-loop-side l = length l.first + length l.second
