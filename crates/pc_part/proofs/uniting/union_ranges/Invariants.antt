use Rattle.std.proofs.Common.{drop, length}
use Rattle.pc_part.proofs.RangeUnions.{Uniting, by_low}
use Rattle.pc_part.proofs.uniting.union_ranges.Given as goal

abbrev pub invariant-loop-range : goal.invariant-loop-range
invariant-loop-range l = Uniting l.a l.b l.out.items (drop (length l.yielded) (by_low l.a l.b))
