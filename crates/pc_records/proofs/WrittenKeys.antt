-- Which keys are written, write by write, whatever the writes say of them.
use Rattle.std.proofs.Common.{◌≡◌, ℕ, List, ◌∷◌, Option, Some, is_some, refl, ap, ◌∙◌, cond, true, false, Bool, ◌||◌}
use Rattle.std.proofs.lemmas.Cmp.{eq_by_cmp_equiv}
use Rattle.pc_types.specs.declared.Write.{Write}
use Rattle.pc_model.specs.Database.{key_order, same_bytes, written}

some_first : {A : Type 0} (b : Bool) (x : A) (o : Option A) → is_some (cond b (Some x) o) ≡ (b || is_some o)
some_first true x o = refl
some_first false x o = refl

-- a key is written if it is that of the first write, or one of the rest
pub written_first : (w : Write) (ws : List Write) (q : List ℕ) → is_some (written (w ∷ ws) q) ≡ (same_bytes w.key q || is_some (written ws q))
written_first w ws q = some_first (same_bytes w.key q) _ (written ws q)

-- the first write's key is written
pub written_own : (w : Write) (ws : List Write) → is_some (written (w ∷ ws) w.key) ≡ true
written_own w ws = written_first w ws w.key ∙ ap (λ b. b || is_some (written ws w.key)) ((eq_by_cmp_equiv key_order.total).refl w.key)

-- what the rest writes is written
pub written_later : (w : Write) (ws : List Write) (q : List ℕ) → is_some (written ws q) ≡ true → is_some (written (w ∷ ws) q) ≡ true
written_later w ws q there = written_first w ws q ∙ ap (λ b. same_bytes w.key q || b) there ∙ elim (same_bytes w.key q) as (λ b. (b || true) ≡ true) [ true ↦ refl | false ↦ refl ]
