-- What a transaction has written has a text: at most 256 writes within their limits, and no key twice.
use Rattle.std.proofs.Common.{◌≡◌, ℕ, suc, ◌+◌, ◌≤◌, eqb, ◌||◌, ◌&&◌, not, Bool, true, false, cond, List, [], ◌∷◌, ◌++◌, length, Option, Some, None, is_some, refl, sym, ap, subst, ◌∙◌, arith}
use Rattle.std.specs.Prelude.{IfSome, ℤ}
use Rattle.std.specs.List.{AllByRecursion, IsDistinct}
use Rattle.std.proofs.lemmas.Bool.Decides.{nat_tests}
use Rattle.std.proofs.lemmas.Cmp.{eq_by_cmp_equiv}
use Rattle.pc_types.specs.declared.Change.{Change}
use Rattle.pc_types.specs.declared.Write.{Write}
use Rattle.pc_types.specs.declared.Change.TheVariants.{Set, Remove, Add}
use Rattle.pc_types.specs.Changes.{number_text, added, or_same, merged, CanMerge, change_to}
use Rattle.pc_types.specs.Limits.{IsKey, IsValue}
use Rattle.pc_model.specs.Database.{same_bytes, write_of, written, with_write, key_order}
use Rattle.pc_model.specs.Points.{is_among, with_key}
use Rattle.pc_model.proofs.TouchedKeyLaws.{with_key_distinct, none_distinct}
use Rattle.pc_log.specs.Texts.{IsChange, IsWrite, keys_of}
use Rattle.pc_log.proofs.ChangeTexts.{number_length}

-- what may be logged of a transaction
pub record AreLawful (ws : List Write) : Type 0 where
  pub count : length ws ≤ 256
  pub in_limits : AllByRecursion IsWrite ws
  pub once : IsDistinct same_bytes (keys_of ws)

pub none_lawful : AreLawful []
none_lawful = record { count = omega arith; in_limits = tt; once = none_distinct }

-- a key is set within the limits of values, or removed, and both can be done after any earlier change
pub lawful_change : (v : Option (List ℕ)) → IfSome v IsValue → IsChange (change_to v)
lawful_change None is = tt
lawful_change (Some value) is = is

pub merges_to : (before : Option Change) (v : Option (List ℕ)) → CanMerge before (change_to v)
merges_to before None = tt
merges_to before (Some value) = tt

-- the number that a key was set to is a value
number_is_value : (n : ℤ) → IsValue (number_text n)
number_is_value n = omega (arith, number_length n)

lawful_sum : (there : Option (List ℕ)) (sum : Option ℤ) → IfSome there IsValue → IsChange (change_to (or_same there sum))
lawful_sum there None is = lawful_change there is
lawful_sum there (Some n) is = number_is_value n

-- two valid changes that can be kept as one are a valid one
lawful_merge : (before after : Change) → IsChange before → IsChange after → CanMerge (Some before) after → IsChange (merged before after)
lawful_merge before (Set value) was is can = is
lawful_merge before Remove was is can = tt
lawful_merge (Set value) (Add d) was is can = lawful_sum (Some value) (added d (Some value)) was
lawful_merge Remove (Add d) was is can = lawful_sum None (added d None) tt
lawful_merge (Add e) (Add d) was is can = can

module _ (k : List ℕ) (change : Change) where
  abbrev write : Write
  write = write_of k change

  -- that of the earlier write of the key, once this one comes after it
  abbrev behind : Write → Write
  behind w = write_of w.key (merged w.change change)

  -- a write adds its key if it is new
  keys_with : (ws : List Write) → keys_of (with_write ws write) ≡ with_key (keys_of ws) k
  keys_with [] = refl
  keys_with (w ∷ ws) = by (same_bytes w.key k) refl (keys_with ws)
    where
      by : (b : Bool) → same_bytes w.key k ≡ b → keys_of (with_write ws write) ≡ with_key (keys_of ws) k → keys_of (cond b (behind w ∷ ws) (w ∷ with_write ws write)) ≡ with_key (w.key ∷ keys_of ws) k
      by true same later =
          let there : same_bytes k w.key ≡ true = (eq_by_cmp_equiv key_order.total).symm k w.key ∙ same in
          ap (λ b. cond (b || is_among (keys_of ws) k) (w.key ∷ keys_of ws) (w.key ∷ keys_of ws ++ k ∷ [])) (sym there)
      by false other later =
          let not_here : same_bytes k w.key ≡ false = (eq_by_cmp_equiv key_order.total).symm k w.key ∙ other in
          ap (λ keys. w.key ∷ keys) later ∙ cons (is_among (keys_of ws) k) ∙ ap (λ b. cond (b || is_among (keys_of ws) k) (w.key ∷ keys_of ws) (w.key ∷ keys_of ws ++ k ∷ [])) (sym not_here)
        where
          cons : (b : Bool) → w.key ∷ cond b (keys_of ws) (keys_of ws ++ k ∷ []) ≡ cond b (w.key ∷ keys_of ws) (w.key ∷ keys_of ws ++ k ∷ [])
          cons true = refl
          cons false = refl

  -- and one more write only if its key is
  count_with : (ws : List Write) → length (with_write ws write) ≡ cond (is_some (written ws k)) (length ws) (length ws + 1)
  count_with [] = refl
  count_with (w ∷ ws) = by (same_bytes w.key k) (count_with ws)
    where
      by : (b : Bool) → length (with_write ws write) ≡ cond (is_some (written ws k)) (length ws) (length ws + 1)
          → length (cond b (behind w ∷ ws) (w ∷ with_write ws write)) ≡ cond (is_some (cond b (Some w.change) (written ws k))) (suc (length ws)) (suc (length ws) + 1)
      by true later = refl
      by false later = ap suc later ∙ cons (is_some (written ws k))
        where
          cons : (b : Bool) → suc (cond b (length ws) (length ws + 1)) ≡ cond b (suc (length ws)) (suc (length ws) + 1)
          cons true = refl
          cons false = omega arith

  limits_with : (ws : List Write) → IsKey k → IsChange change → CanMerge (written ws k) change → AllByRecursion IsWrite ws → AllByRecursion IsWrite (with_write ws write)
  limits_with [] is_key is can all = ((is_key, is), tt)
  limits_with (w ∷ ws) is_key is can all = by (same_bytes w.key k) can (λ can_later. limits_with ws is_key is can_later all.1)
    where
      by : (b : Bool) → CanMerge (cond b (Some w.change) (written ws k)) change → (CanMerge (written ws k) change → AllByRecursion IsWrite (with_write ws write))
          → AllByRecursion IsWrite (cond b (behind w ∷ ws) (w ∷ with_write ws write))
      by true here later = ((all.0.0, lawful_merge w.change change all.0.1 is here), all.1)
      by false here later = (all.0, later here)

  -- one more valid write that isn't one too many, and can be kept as one with what was written of its key
  pub lawful_with : (ws : List Write) → IsKey k → IsChange change → CanMerge (written ws k) change → (eqb (length ws) 256 && not (is_some (written ws k))) ≡ false → AreLawful ws → AreLawful (with_write ws write)
  lawful_with ws is_key is can few are = record {
    count = by (is_some (written ws k)) (count_with ws) few;
    in_limits = limits_with ws is_key is can are.in_limits;
    once = subst (IsDistinct same_bytes) (sym (keys_with ws)) (with_key_distinct (keys_of ws) k are.once);
  }
    where
      by : (b : Bool) → length (with_write ws write) ≡ cond b (length ws) (length ws + 1) → (eqb (length ws) 256 && not b) ≡ false → length (with_write ws write) ≤ 256
      by true is many = omega (arith, is, are.count)
      by false is many = below (eqb (length ws) 256) refl many
        where
          below : (t : Bool) → eqb (length ws) 256 ≡ t → (t && true) ≡ false → length (with_write ws write) ≤ 256
          below true full h = absurd cc
          below false room h = let other : length ws ≤ 255 = grind (arith, nat_tests, are.count) in omega (arith, is, other)
