use Rattle.std.proofs.Common.{◌≡◌, ℕ, ◌≤◌, drop}
use Rattle.pc_recover.specs.Reach.{top_at}
use Rattle.pc_recover.proofs.Reaching.{noted_in}
use Rattle.pc_recover.proofs.reach.note_part.Given as goal

-- the ranges that are left to note
abbrev pub invariant-loop-range : goal.invariant-loop-range
invariant-loop-range l = (point : ℕ) → point ≤ 65535 → noted_in l.top (drop l.range-index l.range-items) point (top_at l.tops point) ≡ noted_in l.top l.range-items point (top_at l.fn.tops point)
