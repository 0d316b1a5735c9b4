use Rattle.std.proofs.Common.{◌≡◌, ℕ, ◌≤◌, ◌<◌, None}
use Rattle.pc_recover.specs.Reach.{top_at}
use Rattle.pc_recover.proofs.reach.is_range_free.Given as goal

-- nothing is noted below this place
abbrev pub invariant-loop-place : goal.invariant-loop-place
invariant-loop-place l = (point : ℕ) → l.fn.range.low ≤ point → point < l.place → top_at l.tops point ≡ None
