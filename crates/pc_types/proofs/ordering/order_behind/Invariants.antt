use Rattle.std.proofs.Common.{◌≡◌, drop}
use Rattle.std.specs.Ordering.{nat_cmp}
use Rattle.std.specs.Cmp.Lexicographic.{slice_cmp}
use Rattle.pc_types.proofs.ordering.order_behind.Given as goal

-- the bytes up to the place are the same
abbrev pub invariant-loop-place : goal.invariant-loop-place
invariant-loop-place l = slice_cmp nat_cmp (drop l.start l.a) (drop l.start l.b) ≡ slice_cmp nat_cmp (drop l.place l.a) (drop l.place l.b)
