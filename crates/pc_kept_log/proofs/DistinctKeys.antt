-- Writes that are all different have no key twice.
use Rattle.std.proofs.Common.{◌≡◌, ℕ, ◌||◌, Bool, true, false, cond, List, [], ◌∷◌, Some, is_some, refl, ap, ◌∙◌}
use Rattle.std.specs.List.{AllByRecursion, IsDistinct}
use Rattle.std.proofs.lemmas.Cmp.{eq_by_cmp_equiv}
use Rattle.pc_types.specs.declared.Write.{Write}
use Rattle.pc_model.specs.Database.{same_bytes, written, key_order}
use Rattle.pc_model.specs.DistinctWrites.{AreDistinct}
use Rattle.pc_model.specs.Points.{is_among}
use Rattle.pc_log.specs.Texts.{keys_of}

-- a key is among the written ones where it was written
among_written : (ws : List Write) (key : List ℕ) → is_among (keys_of ws) key ≡ is_some (written ws key)
among_written [] key = refl
among_written (w ∷ ws) key = ap (λ b. b || is_among (keys_of ws) key) ((eq_by_cmp_equiv key_order.total).symm key w.key) ∙ by (same_bytes w.key key) (among_written ws key)
  where
    by : (b : Bool) → is_among (keys_of ws) key ≡ is_some (written ws key) → (b || is_among (keys_of ws) key) ≡ is_some (cond b (Some w.change) (written ws key))
    by true later = refl
    by false later = later

-- if a key isn't among the keys, it is none of them
all_other : (key : List ℕ) (keys : List (List ℕ)) → is_among keys key ≡ false → AllByRecursion (λ (k : List ℕ). same_bytes key k ≡ false) keys
all_other key [] none = tt
all_other key (k ∷ keys) none = by (same_bytes key k) refl (all_other key keys) none
  where
    by : (b : Bool) → same_bytes key k ≡ b → (is_among keys key ≡ false → AllByRecursion (λ (k : List ℕ). same_bytes key k ≡ false) keys) → (b || is_among keys key) ≡ false → AllByRecursion (λ (k : List ℕ). same_bytes key k ≡ false) (k ∷ keys)
    by true same later h = absurd cc
    by false other later h = (other, later h)

-- writes that are all different have no key twice
pub distinct_once : (ws : List Write) → AreDistinct ws → IsDistinct same_bytes (keys_of ws)
unfolding IsDistinct
distinct_once [] distinct = tt
distinct_once (w ∷ ws) distinct = (all_other w.key (keys_of ws) (among_written ws w.key ∙ distinct.0), distinct_once ws distinct.1)
