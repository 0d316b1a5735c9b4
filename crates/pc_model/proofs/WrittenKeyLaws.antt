-- Which keys a transaction has written, and what its writes leave of the others.
use Rattle.std.proofs.Common.{◌≡◌, ℕ, List, [], ◌∷◌, Option, Some, None, is_some, refl, sym, ap, ◌∙◌, cond, true, false, true≢false, Bool, ◌||◌}
use Rattle.pc_types.specs.declared.Change.{Change}
use Rattle.pc_types.specs.declared.Write.{Write}
use Rattle.pc_types.specs.Changes.{changed_content, merged}
use Rattle.pc_model.specs.Maps.{get}
use Rattle.pc_model.specs.Database.{Database, applied, applied_all, key_order, same_bytes, written, with_write}
use Rattle.pc_model.proofs.JoinLaws.{one_key, get_put}
use Rattle.std.proofs.lemmas.Cmp.{eq_by_cmp_equiv}

-- a change after the earlier one, if there is one
abbrev pub merged_if : Option Change → Change → Change
merged_if None change = change
merged_if (Some before) change = merged before change

-- what the writes with one more do to a key
pub written_with : (ws : List Write) (w : Write) (key : List ℕ) → written (with_write ws w) key ≡ cond (same_bytes w.key key) (Some (merged_if (written ws w.key) w.change)) (written ws key)
written_with [] w key = refl
written_with (v ∷ ws) w key = by_match (same_bytes v.key w.key) refl (written_with ws w key)
  where
    twice : (t : Bool) (x y : Change) (o : Option Change) → cond t (Some x) o ≡ cond t (Some x) (cond t (Some y) o)
    twice true x y o = refl
    twice false x y o = refl

    apart : (s t : Bool) (x y : Change) (o : Option Change) → (s ≡ true → t ≡ true → ⊥) → cond s (Some x) (cond t (Some y) o) ≡ cond t (Some y) (cond s (Some x) o)
    apart true true x y o never = absurd (never refl refl)
    apart true false x y o never = refl
    apart false true x y o never = refl
    apart false false x y o never = refl

    by_match : (b : Bool) → same_bytes v.key w.key ≡ b → written (with_write ws w) key ≡ cond (same_bytes w.key key) (Some (merged_if (written ws w.key) w.change)) (written ws key) →
        written (cond b (record { key = v.key; change = merged v.change w.change } ∷ ws) (v ∷ with_write ws w)) key
        ≡ cond (same_bytes w.key key) (Some (merged_if (cond b (Some v.change) (written ws w.key)) w.change)) (cond (same_bytes v.key key) (Some v.change) (written ws key))
    by_match true e later =
        ap (λ k. cond (same_bytes k key) (Some (merged v.change w.change)) (written ws key)) (one_key v.key w.key e)
        ∙ twice (same_bytes w.key key) (merged v.change w.change) v.change (written ws key)
        ∙ ap (λ k. cond (same_bytes w.key key) (Some (merged v.change w.change)) (cond (same_bytes k key) (Some v.change) (written ws key))) (sym (one_key v.key w.key e))
    by_match false e later =
        ap (λ o. cond (same_bytes v.key key) (Some v.change) o) later
        ∙ apart (same_bytes v.key key) (same_bytes w.key key) v.change (merged_if (written ws w.key) w.change) (written ws key) (λ s t. differ s t)
      where
        differ : same_bytes v.key key ≡ true → same_bytes w.key key ≡ true → ⊥
        differ s t =
            let one : v.key ≡ w.key = one_key v.key key s ∙ sym (one_key w.key key t) in
            let yes : same_bytes v.key w.key ≡ true = ap (same_bytes v.key) (sym one) ∙ (eq_by_cmp_equiv key_order.total).refl v.key in
            true≢false (sym yes ∙ e)

-- a write's key is its own, or was written before
pub held_by : (ws : List Write) (w : Write) (key : List ℕ) → is_some (written (with_write ws w) key) ≡ (same_bytes w.key key || is_some (written ws key))
held_by ws w key = ap is_some (written_with ws w key) ∙ by_test (same_bytes w.key key) (written ws key)
  where
    by_test : (b : Bool) (o : Option Change) → is_some (cond b (Some (merged_if (written ws w.key) w.change)) o) ≡ (b || is_some o)
    by_test true o = refl
    by_test false o = refl

-- a key that isn't written stays as it was
pub unwritten_stays : (db : Database) (ws : List Write) (key : List ℕ) → is_some (written ws key) ≡ false → get (applied_all db ws) key ≡ get db key
unwritten_stays db [] key none = refl
unwritten_stays db (w ∷ ws) key none = by_match (same_bytes w.key key) refl none (unwritten_stays (applied db w) ws key)
  where
    by_match : (b : Bool) → same_bytes w.key key ≡ b → is_some (cond b (Some w.change) (written ws key)) ≡ false → (is_some (written ws key) ≡ false → get (applied_all (applied db w) ws) key ≡ get (applied db w) key) →
        get (applied_all (applied db w) ws) key ≡ get db key
    by_match true e none later = cc
    by_match false e none later = later none ∙ get_put db w.key key (changed_content w.change (get db w.key)) ∙ ap (λ b. cond b (changed_content w.change (get db w.key)) (get db key)) ((eq_by_cmp_equiv key_order.total).symm key w.key ∙ e)
