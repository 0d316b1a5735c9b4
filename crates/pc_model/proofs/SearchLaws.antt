-- A binary search among entries that ascend by key.
use Rattle.std.proofs.Common.{◌≡◌, ℕ, zero, suc, ◌+◌, ◌<◌, ◌≤◌, List, [], ◌∷◌, length, get_or, Result, Ok, Err, IfOk, IfErr, HoldsAt, refl, sym, ap, ◌∙◌, arith, add-one, Bool, true, false, ltb, ltb-true, ltb-false, subst}
use Rattle.std.specs.declared.cmp.Ordering.{Ordering}
use Rattle.std.specs.declared.cmp.Ordering.TheVariants.{Less, Equal, Greater}
use Rattle.std.specs.FinMap.Entries.{below_all}
use Rattle.std.specs.List.Sorted.{IsBinarySearchResult, IsPartitionPoint, IsNonDecreasingBy, IsSearchInRange}
use Rattle.std.specs.Ordering.{is_lt, is_eq, ordering_reverse, ordering_index}
use Rattle.std.proofs.lemmas.List.{get_or_default}
use Rattle.std.proofs.lemmas.List.Sorted.{searchable_from_sorted}
use Rattle.pc_model.specs.Database.{key_cmp, key_order, same_bytes, KeysRise}
use Rattle.pc_model.specs.Places.{IsAt, IsGap, IsBehind}
use Rattle.pc_model.proofs.PlaceLaws.{at_hit, gap_before, gap_at_end, behind_more}
use Rattle.pc_model.proofs.RisingLaws.{both}

pub is_less : (o : Ordering) → is_lt o ≡ true → o ≡ Less
is_less Less h = refl
is_less Equal h = cc
is_less Greater h = cc

-- the two keys the other way round
pub turned : (k l : List ℕ) (o : Ordering) → key_cmp k l ≡ o → key_cmp l k ≡ ordering_reverse o
turned k l o is = key_order.total.antisymm l k ∙ ap ordering_reverse is

-- how the key of an entry compares to this one
abbrev pub against : {X : Type 0} → List ℕ → List ℕ × X → Ordering
against key e = key_cmp e.0 key

module _ {X : Type 0} where
  below_far : (key : List ℕ) (es : List (List ℕ × X)) (j : ℕ) (d : List ℕ × X) → below_all key_cmp key es ≡ true → j < length es → key_cmp key (get_or es j d).0 ≡ Less
  below_far key [] j d below lt = absurd (omega (arith, lt))
  below_far key (x ∷ xs) zero d below lt = is_less (key_cmp key x.0) (both _ _ below).0
  below_far key (x ∷ xs) (suc j) d below lt = below_far key xs j d (both (is_lt (key_cmp key x.0)) _ below).1 (omega (arith, lt))

  -- each key is less than all after it
  rise_far : (es : List (List ℕ × X)) (i j : ℕ) (d : List ℕ × X) → KeysRise es → i < j → j < length es → key_cmp (get_or es i d).0 (get_or es j d).0 ≡ Less
  rise_far [] i j d rise before lt = absurd (omega (arith, lt))
  rise_far (x ∷ xs) i zero d rise before lt = absurd (omega (arith, before))
  rise_far (x ∷ xs) zero (suc j) d rise before lt = below_far x.0 xs j d (both _ _ rise).0 (omega (arith, lt))
  rise_far (x ∷ xs) (suc i) (suc j) d rise before lt = rise_far xs i j d (both (below_all key_cmp x.0 xs) _ rise).1 (omega (arith, before)) (omega (arith, lt))

  module _ (es : List (List ℕ × X)) (key : List ℕ) where
    -- the first entries are less than the key, then comes at most one that has it, and then the greater ones
    answers_rise : KeysRise es → IsNonDecreasingBy (λ e. ordering_index (against key e)) es
    answers_rise rise = searchable_from_sorted key_order.total (λ (e : List ℕ × X). e.0) es key
        (λ k d low lt. ap is_lt (turned (get_or es k d).0 (get_or es (k + 1) d).0 Less (rise_far es k (k + 1) d rise (omega arith) lt)))

    -- the key is greater than those of the first i entries, each for itself
    behind : (i : ℕ) (d : List ℕ × X) → i ≤ length es → ((k : ℕ) (d : List ℕ × X) → k < i → against key (get_or es k d) ≡ Less) → IsBehind es key i
    behind zero d le less = record { puts = λ r. refl; finds = refl }
    behind (suc i) d le less =
        let e = get_or es i d in
        let lt : i < length es = omega (arith, le) in
        subst (IsBehind es key) (add-one i) (behind_more es key i e lt (get_or_default es i d e lt) (behind i d (omega (arith, le)) (λ k d before. less k d (omega (arith, before)))) (turned e.0 key Less (less i d (omega arith))))

  -- the entry that has the key
  hit : (es : List (List ℕ × X)) (key : List ℕ) (i : ℕ) → i < length es → KeysRise es → HoldsAt (λ e. against key e ≡ Equal) es i → IsAt es key i
  hit [] key i lt rise at = absurd (omega (arith, lt))
  hit (x ∷ xs) key i lt rise at =
      let es : List (List ℕ × X) = x ∷ xs in
      let e = get_or es i x in
      let same : (d : List ℕ × X) → (get_or es i d).0 ≡ key = λ d. key_order.exact (get_or es i d).0 key (at d) in
      let less : (k : ℕ) (d : List ℕ × X) → k < i → against key (get_or es k d) ≡ Less = λ k d before. sym (ap (λ l. key_cmp (get_or es k d).0 l) (same d)) ∙ rise_far es k i d rise before lt in
      at_hit es key i e lt (get_or_default es i x e lt) (behind es key i x (omega (arith, lt)) less) (turned e.0 key Equal (at x))

  -- the place between the entries that are less and those that are greater
  gap : (es : List (List ℕ × X)) (key : List ℕ) (i : ℕ) → i ≤ length es → KeysRise es → IsPartitionPoint (λ e. against key e ≡ Less) (λ e. against key e ≡ Greater) es i → IsGap es key i
  gap [] key zero le rise parted = gap_at_end [] key 0 (omega arith) (omega arith) (record { puts = λ r. refl; finds = refl })
  gap [] key (suc i) le rise parted = absurd (omega (arith, le))
  gap (x ∷ xs) key i le rise parted = by_test (ltb i (length es)) refl
    where
      es : List (List ℕ × X)
      es = x ∷ xs

      so_far : IsBehind es key i
      so_far = behind es key i x le (λ k d before. parted.0 k d (omega arith) before)

      by_test : (b : Bool) → ltb i (length es) ≡ b → IsGap es key i
      by_test true is =
          let lt = ltb-true i (length es) is in
          let e = get_or es i x in
          gap_before es key i e lt (get_or_default es i x e lt) so_far rise (turned e.0 key Greater (parted.1 i x (omega arith) lt))
      by_test false is =
          let ge = ltb-false i (length es) is in
          let at_end : length es ≡ i = omega (arith, ge, le) in
          subst (IsGap es key) at_end (gap_at_end es key i ge le so_far)

  module _ (es : List (List ℕ × X)) (key : List ℕ) where
    pub found_at : (r : Result ℕ ℕ) → KeysRise es → IsSearchInRange r (length es) → IsBinarySearchResult (against key) es r → IfOk r (IsAt es key)
    found_at (Ok i) rise bound at = hit es key i bound rise at
    found_at (Err i) rise bound at = _

    pub found_here : (r : Result ℕ ℕ) → IsBinarySearchResult (against key) es r → IfOk r (λ i. (d : List ℕ × X) → (get_or es i d).0 ≡ key)
    found_here (Ok i) at = λ d. key_order.exact (get_or es i d).0 key (at d)
    found_here (Err i) at = _

    pub found_gap : (r : Result ℕ ℕ) → KeysRise es → IsSearchInRange r (length es) → IsBinarySearchResult (against key) es r → IfErr r (IsGap es key)
    found_gap (Ok i) rise bound at = _
    found_gap (Err i) rise bound parted = gap es key i bound rise (parted (answers_rise es key rise))

  -- the entry that was read there has the key
  pub hit_by : (es : List (List ℕ × X)) (key : List ℕ) (i : ℕ) (e : List ℕ × X) → KeysRise es → i < length es → e ≡ get_or es i e → same_bytes e.0 key ≡ true → IsAt es key i
  hit_by es key i e rise lt is same =
      hit es key i lt rise (λ d. ap (λ (x : List ℕ × X). key_cmp x.0 key) (get_or_default es i d e lt ∙ sym is) ∙ is_equal (key_cmp e.0 key) same)
    where
      is_equal : (o : Ordering) → is_eq o ≡ true → o ≡ Equal
      is_equal Less h = cc
      is_equal Equal h = refl
      is_equal Greater h = cc
