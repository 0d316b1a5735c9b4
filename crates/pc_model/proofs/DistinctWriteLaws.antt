-- Writes of which no two have one key.
use Rattle.std.proofs.Common.{◌≡◌, ℕ, List, [], ◌∷◌, Option, Some, None, is_some, refl, sym, ap, ◌∙◌, cond, true, false, Bool, ◌||◌}
use Rattle.std.proofs.lemmas.Cmp.{eq_by_cmp_equiv}
use Rattle.pc_types.specs.declared.Change.{Change}
use Rattle.pc_types.specs.declared.Write.{Write}
use Rattle.pc_types.specs.Changes.{changed_content, merged}
use Rattle.pc_model.specs.Maps.{get}
use Rattle.pc_model.specs.Database.{Database, applied, applied_all, key_order, same_bytes, with_write, written, seen}
use Rattle.pc_model.specs.DistinctWrites.{AreDistinct}
use Rattle.pc_model.proofs.JoinLaws.{one_key, get_put}
use Rattle.pc_model.proofs.WrittenKeyLaws.{held_by}

turn : (k l : List ℕ) → same_bytes k l ≡ same_bytes l k
turn k l = (eq_by_cmp_equiv key_order.total).symm k l

-- with one more write, merged with the earlier one of its key
pub distinct_with : (ws : List Write) (w : Write) → AreDistinct ws → AreDistinct (with_write ws w)
distinct_with [] w d = (refl, tt)
distinct_with (v ∷ ws) w d = by_match (same_bytes v.key w.key) refl (distinct_with ws w d.1) (held_by ws w v.key)
  where
    by_match : (b : Bool) → same_bytes v.key w.key ≡ b → AreDistinct (with_write ws w) → is_some (written (with_write ws w) v.key) ≡ (same_bytes w.key v.key || is_some (written ws v.key)) →
        AreDistinct (cond b (record { key = v.key; change = merged v.change w.change } ∷ ws) (v ∷ with_write ws w))
    by_match true e later is = d
    by_match false e later is = (is ∙ ap (λ b. b || is_some (written ws v.key)) (turn w.key v.key ∙ e) ∙ d.0, later)

not_some : (o : Option Change) → is_some o ≡ false → o ≡ None
not_some None e = refl
not_some (Some c) e = cc

-- what distinct writes leave at a key is what the one of that key makes of what was there
pub seen_of : (db : Database) (ws : List Write) (key : List ℕ) → AreDistinct ws → get (applied_all db ws) key ≡ seen (written ws key) (get db key)
seen_of db [] key d = refl
seen_of db (w ∷ ws) key d = seen_of (applied db w) ws key d.1 ∙ by_match (same_bytes w.key key) refl
  where
    left : get (applied db w) key ≡ cond (same_bytes key w.key) (changed_content w.change (get db w.key)) (get db key)
    left = get_put db w.key key (changed_content w.change (get db w.key))

    by_match : (b : Bool) → same_bytes w.key key ≡ b → seen (written ws key) (get (applied db w) key) ≡ seen (cond b (Some w.change) (written ws key)) (get db key)
    by_match true e =
        let same : w.key ≡ key = one_key w.key key e in
        let none : written ws key ≡ None = ap (written ws) (sym same) ∙ not_some (written ws w.key) d.0 in
        ap (λ o. seen o (get (applied db w) key)) none ∙ left ∙ ap (λ b. cond b (changed_content w.change (get db w.key)) (get db key)) (turn key w.key ∙ e) ∙ ap (λ k. changed_content w.change (get db k)) same
    by_match false e = ap (seen (written ws key)) (left ∙ ap (λ b. cond b (changed_content w.change (get db w.key)) (get db key)) (turn key w.key ∙ e))
