use Rattle.std.proofs.Common.{◌+◌, length}
use Rattle.pc_part.proofs.JoinedLists.{Counted}
use Rattle.pc_part.proofs.joining.joined_len.Given as goal

abbrev pub invariant-loop-side : goal.invariant-loop-side
invariant-loop-side l = Counted l.a l.b l.first l.second l.len

abbrev pub decreases-loop-side : goal.decreases-loop-side
decreases-loop-side l = length l.first + length l.second
