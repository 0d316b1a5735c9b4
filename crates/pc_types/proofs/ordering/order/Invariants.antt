use Rattle.std.proofs.Common.{◌≡◌, ◌*◌, drop}
use Rattle.std.specs.Ordering.{nat_cmp}
use Rattle.std.specs.Cmp.Lexicographic.{slice_cmp}
use Rattle.pc_types.proofs.ordering.order.Given as goal

-- the words up to the place are the same
abbrev pub invariant-loop-place : goal.invariant-loop-place
invariant-loop-place l = slice_cmp nat_cmp l.a l.b ≡ slice_cmp nat_cmp (drop (l.place * 8) l.a) (drop (l.place * 8) l.b)
