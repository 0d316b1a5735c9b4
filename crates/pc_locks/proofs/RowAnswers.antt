-- What a search and an edit make of the entries of ends.
use Rattle.std.proofs.Common.{◌≡◌, ◌≢◌, ℕ, List, [], length, get_or, Some, None, is_some, Result, Ok, Err, IfOk, IfErr, sym, ap, ◌∙◌, true, inl, inr, subst, arith, ◌+◌}
use Rattle.std.specs.BTreeMap.{is_at}
use Rattle.std.specs.List.{insert, remove, slice_set}
use Rattle.std.specs.List.Sorted.{IsBinarySearchResult, IsSearchInRange, IsStrictlySortedBy}
use Rattle.std.specs.Map.{lookup}
use Rattle.std.specs.Ordering.{nat_cmp}
use Rattle.std.specs.Prelude.{unwrap_or}
use Rattle.std.proofs.lemmas.Bool.{cases_eq}
use Rattle.std.proofs.lemmas.List.Edits.{length-insert, get_or-insert_at}
use Rattle.pc_chain.specs.declared.chain.Chain.{Chain}
use Rattle.pc_locks.specs.Lines.{no_chain, ends_at, AreRising, IsEntryAt, IsGapAt}
use Rattle.pc_locks.proofs.RowLaws.{apart, found, parted, has, gap_none, gap_rise, keys_set, set_this, set_other, insert_this, insert_other, remove_rise, remove_this, remove_other}

pub rise_none : (es : List (ℕ × Chain ℕ)) → es ≡ [] → AreRising es
unfolding IsStrictlySortedBy
rise_none es is = subst AreRising (sym is) tt

pub forget_rise : (es : List (ℕ × Chain ℕ)) (i : ℕ) → AreRising es → (new_es : List (ℕ × Chain ℕ)) → new_es ≡ remove es i → AreRising new_es
forget_rise es i rise new_es is = subst AreRising (sym is) (remove_rise es i rise)

module _ (es : List (ℕ × Chain ℕ)) (t : ℕ) where
  pub entry_at : (r : Result ℕ ℕ) → IsSearchInRange r (length es) → IsBinarySearchResult (λ e. nat_cmp e.0 t) es r → IfOk r (IsEntryAt es t)
  entry_at (Ok i) bound at = record { within = bound; number = has es t (Ok i) at }
  entry_at (Err i) bound at = _

  pub gap_at : (r : Result ℕ ℕ) → AreRising es → IsSearchInRange r (length es) → IsBinarySearchResult (λ e. nat_cmp e.0 t) es r → IfErr r (IsGapAt es t)
  gap_at (Ok i) rise bound at = _
  gap_at (Err i) rise bound at =
      let parts = parted es t (Err i) rise at in
      record { within = bound; none = gap_none es t i rise parts; rising = λ ends. gap_rise es t i ends rise parts }

  module _ (i : ℕ) (rise : AreRising es) (at : IsEntryAt es t i) where
    pub hit_known : is_some (lookup (is_at (nat_cmp t)) es) ≡ true
    hit_known = ap is_some (found es t i (t, no_chain) at.within rise at.number)

    pub hit_ends : (e : ℕ × Chain ℕ) → e ≡ get_or es i e → e.1 ≡ ends_at es t
    hit_ends e is = ap (λ x. x.1) is ∙ sym (ap (λ o. unwrap_or o no_chain) (found es t i e at.within rise at.number))

    pub put_rise : (ends : Chain ℕ) → AreRising (slice_set es i (t, ends))
    put_rise ends = subst (IsStrictlySortedBy nat_cmp) (sym (keys_set es t i ends at.number)) rise

    pub put_this : (ends : Chain ℕ) → ends_at (slice_set es i (t, ends)) t ≡ ends
    put_this ends = ap (λ o. unwrap_or o no_chain) (set_this es t i ends at.within rise at.number)

    pub put_other : (ends : Chain ℕ) (u : ℕ) → u ≢ t → lookup (is_at (nat_cmp u)) (slice_set es i (t, ends)) ≡ lookup (is_at (nat_cmp u)) es
    put_other ends u n = set_other (is_at (nat_cmp u)) es t i ends (apart u t n) at.number

    module _ (new_es : List (ℕ × Chain ℕ)) (is : new_es ≡ remove es i) where
      pub forget_this : lookup (is_at (nat_cmp t)) new_es ≡ None
      forget_this = ap (lookup (is_at (nat_cmp t))) is ∙ remove_this es t i at.within rise at.number

      pub forget_other : (u : ℕ) → u ≢ t → lookup (is_at (nat_cmp u)) new_es ≡ lookup (is_at (nat_cmp u)) es
      forget_other u n = ap (lookup (is_at (nat_cmp u))) is ∙ remove_other (is_at (nat_cmp u)) es t i (apart u t n) at.number

  -- empty ends if none were
  module _ (i : ℕ) (gap : IsGapAt es t i) (ends : Chain ℕ) (empty : ends ≡ no_chain) (new_es : List (ℕ × Chain ℕ)) (is : new_es ≡ insert es i (t, ends)) where
    keep_this : lookup (is_at (nat_cmp t)) new_es ≡ Some no_chain
    keep_this = ap (lookup (is_at (nat_cmp t))) is ∙ (insert_this es t i ends gap.none ∙ ap Some empty)

    pub keep_at : IsEntryAt new_es t i
    keep_at = record {
      within =
          let n : length new_es ≡ length es + 1 = ap length is ∙ length-insert es i (t, ends) gap.within in
          let w = gap.within in
          omega (arith, n, w);
      number = λ e. ap (λ xs. (get_or xs i e).0) is ∙ ap (λ x. x.0) (get_or-insert_at es i (t, ends) e gap.within);
    }

    pub keep_other : (u : ℕ) → u ≢ t → lookup (is_at (nat_cmp u)) new_es ≡ lookup (is_at (nat_cmp u)) es
    keep_other u n = ap (lookup (is_at (nat_cmp u))) is ∙ insert_other (is_at (nat_cmp u)) es t i ends (apart u t n)

    pub keep_ends : (u : ℕ) → ends_at new_es u ≡ ends_at es u
    keep_ends u = elim (cases_eq u t) [
      | inl p ↦ subst (λ x. ends_at new_es x ≡ ends_at es x) (sym p) (ap (λ o. unwrap_or o no_chain) keep_this ∙ sym (ap (λ o. unwrap_or o no_chain) gap.none))
      | inr n ↦ ap (λ o. unwrap_or o no_chain) (keep_other u n)
    ]
