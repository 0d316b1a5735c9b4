-- The number of writes once one more is noted.
use Rattle.std.proofs.Common.{◌≤◌, Bool, true, false, List, [], ◌∷◌, length, cond, arith}
use Rattle.pc_types.specs.declared.Write.{Write}
use Rattle.pc_types.specs.Changes.{merged}
use Rattle.pc_model.specs.Database.{with_write, write_of, same_bytes}

-- no fewer than before
pub no_fewer : (ws : List Write) (w : Write) → length ws ≤ length (with_write ws w)
no_fewer [] w = omega arith
no_fewer (x ∷ xs) w = by_same (same_bytes x.key w.key) (no_fewer xs w)
  where
    by_same : (b : Bool) → length xs ≤ length (with_write xs w) → length (x ∷ xs) ≤ length (cond b (write_of x.key (merged x.change w.change) ∷ xs) (x ∷ with_write xs w))
    by_same true le = omega arith
    by_same false le = omega (arith, le)
