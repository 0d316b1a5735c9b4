-- Bytes that are put in order.
use Rattle.std.proofs.Common.{ℕ, List, [], ◌++◌, length, take, refl, sym, ap, ◌∙◌, append_assoc, arith}
use Rattle.std.proofs.lemmas.List.{append-nil, length-append}
use Rattle.pc_kept_log.specs.Placing.{ArePut, HasSpace}

-- two texts, in order
pub put_then : (a b c : List ℕ) (at m e : ℕ) (x y : List ℕ) → ArePut a b at x m → ArePut b c m y e → ArePut a c at (x ++ y) e
put_then a b c at m e x y p q = record {
  ends = omega (arith, p.ends, q.ends, length-append x y);
  there = q.there ∙ ap (λ (t : List ℕ). t ++ y) p.there ∙ append_assoc (take at a) x y;
  same_room = q.same_room ∙ p.same_room;
}

-- the space of the second, once the first was put
pub space_behind : (a b : List ℕ) (at m : ℕ) (x y : List ℕ) → HasSpace a at (length (x ++ y)) → ArePut a b at x m → HasSpace b m (length y)
space_behind a b at m x y space p = omega (arith, p.ends, p.same_room, length-append x y, space)

-- the space of the first
pub space_first : (a : List ℕ) (at : ℕ) (x y : List ℕ) → HasSpace a at (length (x ++ y)) → HasSpace a at (length x)
space_first a at x y space = omega (arith, length-append x y, space)

-- nothing was put yet
pub none_put : (a : List ℕ) (at : ℕ) → ArePut a a at [] at
none_put a at = record { ends = omega arith; there = sym (append-nil (take at a)); same_room = refl }
