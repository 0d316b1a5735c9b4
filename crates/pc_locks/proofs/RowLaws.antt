-- Entries that ascend by number: what a search finds, and what an edit at its place does.
use Rattle.std.proofs.Common.{◌≡◌, ◌≢◌, ℕ, zero, suc, ◌+◌, ◌<◌, List, [], ◌∷◌, length, get_or, Some, None, Result, Ok, Err, IfOk, IfErr, refl, sym, ap, ◌∙◌, arith, Bool, true, false, cond, subst}
use Rattle.std.specs.declared.cmp.Ordering.{Ordering}
use Rattle.std.specs.declared.cmp.Ordering.TheVariants.{Less, Equal, Greater}
use Rattle.std.specs.BTreeMap.{is_at}
use Rattle.std.specs.Cmp.{nat_cmp_is}
use Rattle.std.specs.List.{AllByRecursion, insert, remove, slice_set}
use Rattle.std.specs.List.Sorted.{IsBinarySearchResult, IsPartitionPoint, IsNonDecreasingBy, IsStrictlySortedBy}
use Rattle.std.specs.Map.{lookup, keys_of}
use Rattle.std.specs.Ordering.{nat_cmp, is_lt, is_eq, ordering_reverse, ordering_index}
use Rattle.std.proofs.lemmas.Cmp.{nat_cmp_total, ranked}
use Rattle.std.proofs.lemmas.List.Sorted.{searchable_from_sorted}
use Rattle.std.proofs.lemmas.Map.Entries.{lookup_head, lookup_tail}
use Rattle.std.proofs.lemmas.Map.Keys.{sorted_head, sorted_tail}

-- the two numbers the other way round
turned : (t u : ℕ) (o : Ordering) → nat_cmp t u ≡ o → nat_cmp u t ≡ ordering_reverse o
turned t u o is = nat_cmp_total.antisymm u t ∙ ap ordering_reverse is

-- a number is found by itself
itself : (t : ℕ) → is_at (nat_cmp t) t ≡ true
itself t = sym (ap is_eq (nat_cmp_is t t Equal refl))

-- and by no other
pub apart : (u t : ℕ) → u ≢ t → is_at (nat_cmp u) t ≡ false
apart u t n = by (nat_cmp u t) refl
  where
    by : (o : Ordering) → o ≡ nat_cmp u t → is_eq o ≡ false
    by Less e = refl
    by Equal e = absurd (n (ranked u t Equal e))
    by Greater e = refl

module _ {X : Type 0} where
  abbrev Rise : List (ℕ × X) → Type 0
  Rise es = IsStrictlySortedBy nat_cmp (keys_of es)

  -- the number is less than each of theirs
  abbrev IsBelow : ℕ → List (ℕ × X) → Type 0
  IsBelow t es = AllByRecursion (λ u. nat_cmp t u ≡ Less) (keys_of es)

  -- the first ones are less than the number, and then come the greater ones
  abbrev Parts : List (ℕ × X) → ℕ → ℕ → Type 0
  Parts es t i = IsPartitionPoint (λ e. nat_cmp e.0 t ≡ Less) (λ e. nat_cmp e.0 t ≡ Greater) es i

  -- the entry there has the number
  abbrev Has : List (ℕ × X) → ℕ → ℕ → Type 0
  Has es t i = (e : ℕ × X) → (get_or es i e).0 ≡ t

  rise_more : (e : ℕ × X) (es : List (ℕ × X)) → IsBelow e.0 es → Rise es → Rise (e ∷ es)
  unfolding IsStrictlySortedBy
  rise_more e es below rise = (below, rise)

  below_far : (t : ℕ) (es : List (ℕ × X)) (j : ℕ) (d : ℕ × X) → IsBelow t es → j < length es → nat_cmp t (get_or es j d).0 ≡ Less
  below_far t [] j d below lt = absurd (omega (arith, lt))
  below_far t (e ∷ es) zero d below lt = below.0
  below_far t (e ∷ es) (suc j) d below lt = below_far t es j d below.1 (omega (arith, lt))

  -- what is less than a number is less than all that this is less than
  below_less : (t u : ℕ) (es : List (ℕ × X)) → nat_cmp t u ≡ Less → IsBelow u es → IsBelow t es
  below_less t u [] less below = tt
  below_less t u (e ∷ es) less below = (nat_cmp_total.trans t u e.0 less below.0, below_less t u es less below.1)

  below_none : (t : ℕ) (es : List (ℕ × X)) → IsBelow t es → lookup (is_at (nat_cmp t)) es ≡ None
  below_none t [] below = refl
  below_none t (e ∷ es) below = lookup_tail (is_at (nat_cmp t)) e es (ap is_eq below.0) ∙ below_none t es below.1

  -- each number is less than all after it
  rise_far : (es : List (ℕ × X)) (i j : ℕ) (d : ℕ × X) → Rise es → i < j → j < length es → nat_cmp (get_or es i d).0 (get_or es j d).0 ≡ Less
  rise_far [] i j d rise before lt = absurd (omega (arith, lt))
  rise_far (e ∷ es) i zero d rise before lt = absurd (omega (arith, before))
  rise_far (e ∷ es) zero (suc j) d rise before lt = below_far e.0 es j d (sorted_head nat_cmp e.0 (keys_of es) rise) (omega (arith, lt))
  rise_far (e ∷ es) (suc i) (suc j) d rise before lt = rise_far es i j d (sorted_tail nat_cmp e.0 (keys_of es) rise) (omega (arith, before)) (omega (arith, lt))

  -- the first entry is not the one further on
  head_other : (e : ℕ × X) (es : List (ℕ × X)) (t i : ℕ) → i < length es → Rise (e ∷ es) → Has es t i → nat_cmp e.0 t ≡ Less
  head_other e es t i lt rise has = sym (ap (nat_cmp e.0) (has e)) ∙ below_far e.0 es i e (sorted_head nat_cmp e.0 (keys_of es) rise) lt

  -- the entry at the number's place is the one found by it
  pub found : (es : List (ℕ × X)) (t i : ℕ) (d : ℕ × X) → i < length es → Rise es → Has es t i → lookup (is_at (nat_cmp t)) es ≡ Some (get_or es i d).1
  found [] t i d lt rise has = absurd (omega (arith, lt))
  found (e ∷ es) t zero d lt rise has = lookup_head (is_at (nat_cmp t)) e es (ap (is_at (nat_cmp t)) (has e) ∙ itself t)
  found (e ∷ es) t (suc i) d lt rise has =
      let l : i < length es = omega (arith, lt) in
      lookup_tail (is_at (nat_cmp t)) e es (ap is_eq (turned e.0 t Less (head_other e es t i l rise has))) ∙ found es t i d l (sorted_tail nat_cmp e.0 (keys_of es) rise) has

  -- ---- another value in its place

  pub keys_set : (es : List (ℕ × X)) (t i : ℕ) (x : X) → Has es t i → keys_of (slice_set es i (t, x)) ≡ keys_of es
  keys_set [] t i x has = refl
  keys_set (e ∷ es) t zero x has = ap (λ u. u ∷ keys_of es) (sym (has e))
  keys_set (e ∷ es) t (suc i) x has = ap (λ us. e.0 ∷ us) (keys_set es t i x has)

  pub set_this : (es : List (ℕ × X)) (t i : ℕ) (x : X) → i < length es → Rise es → Has es t i → lookup (is_at (nat_cmp t)) (slice_set es i (t, x)) ≡ Some x
  set_this [] t i x lt rise has = absurd (omega (arith, lt))
  set_this (e ∷ es) t zero x lt rise has = lookup_head (is_at (nat_cmp t)) (t, x) es (itself t)
  set_this (e ∷ es) t (suc i) x lt rise has =
      let l : i < length es = omega (arith, lt) in
      lookup_tail (is_at (nat_cmp t)) e (slice_set es i (t, x)) (ap is_eq (turned e.0 t Less (head_other e es t i l rise has))) ∙ set_this es t i x l (sorted_tail nat_cmp e.0 (keys_of es) rise) has

  module _ (test : ℕ → Bool) where
    pub set_other : (es : List (ℕ × X)) (t i : ℕ) (x : X) → test t ≡ false → Has es t i → lookup test (slice_set es i (t, x)) ≡ lookup test es
    set_other [] t i x n has = refl
    set_other (e ∷ es) t zero x n has = lookup_tail test (t, x) es n ∙ sym (lookup_tail test e es (ap test (has e) ∙ n))
    set_other (e ∷ es) t (suc i) x n has = ap (cond (test e.0) (Some e.1)) (set_other es t i x n has)

    -- ---- a new entry between the lesser and the greater ones

    pub insert_other : (es : List (ℕ × X)) (t i : ℕ) (x : X) → test t ≡ false → lookup test (insert es i (t, x)) ≡ lookup test es
    insert_other [] t zero x n = lookup_tail test (t, x) [] n
    insert_other [] t (suc i) x n = lookup_tail test (t, x) [] n
    insert_other (e ∷ es) t zero x n = lookup_tail test (t, x) (e ∷ es) n
    insert_other (e ∷ es) t (suc i) x n = ap (cond (test e.0) (Some e.1)) (insert_other es t i x n)

    pub remove_other : (es : List (ℕ × X)) (t i : ℕ) → test t ≡ false → Has es t i → lookup test (remove es i) ≡ lookup test es
    remove_other [] t zero n has = refl
    remove_other [] t (suc i) n has = refl
    remove_other (e ∷ es) t zero n has = sym (lookup_tail test e es (ap test (has e) ∙ n))
    remove_other (e ∷ es) t (suc i) n has = ap (cond (test e.0) (Some e.1)) (remove_other es t i n has)

  -- what is left and right of the place, one entry on
  parts_rest : (e : ℕ × X) (es : List (ℕ × X)) (t i : ℕ) → Parts (e ∷ es) t (suc i) → Parts es t i
  parts_rest e es t i parts = (λ k d low lt. parts.0 (suc k) d (omega arith) (omega (arith, lt)), λ k d low lt. parts.1 (suc k) d (omega (arith, low)) (omega (arith, lt)))

  pub gap_none : (es : List (ℕ × X)) (t i : ℕ) → Rise es → Parts es t i → lookup (is_at (nat_cmp t)) es ≡ None
  gap_none [] t i rise parts = refl
  gap_none (e ∷ es) t zero rise parts =
      let less = turned e.0 t Greater (parts.1 0 e (omega arith) (omega arith)) in
      below_none t (e ∷ es) (less, below_less t e.0 es less (sorted_head nat_cmp e.0 (keys_of es) rise))
  gap_none (e ∷ es) t (suc i) rise parts =
      lookup_tail (is_at (nat_cmp t)) e es (ap is_eq (turned e.0 t Less (parts.0 0 e (omega arith) (omega arith)))) ∙ gap_none es t i (sorted_tail nat_cmp e.0 (keys_of es) rise) (parts_rest e es t i parts)

  below_insert : (u : ℕ) (es : List (ℕ × X)) (t i : ℕ) (x : X) → nat_cmp u t ≡ Less → IsBelow u es → IsBelow u (insert es i (t, x))
  below_insert u [] t zero x less below = (less, tt)
  below_insert u [] t (suc i) x less below = (less, tt)
  below_insert u (e ∷ es) t zero x less below = (less, below)
  below_insert u (e ∷ es) t (suc i) x less below = (below.0, below_insert u es t i x less below.1)

  pub gap_rise : (es : List (ℕ × X)) (t i : ℕ) (x : X) → Rise es → Parts es t i → Rise (insert es i (t, x))
  gap_rise [] t zero x rise parts = rise_more (t, x) [] tt rise
  gap_rise [] t (suc i) x rise parts = rise_more (t, x) [] tt rise
  gap_rise (e ∷ es) t zero x rise parts =
      let less = turned e.0 t Greater (parts.1 0 e (omega arith) (omega arith)) in
      rise_more (t, x) (e ∷ es) (less, below_less t e.0 es less (sorted_head nat_cmp e.0 (keys_of es) rise)) rise
  gap_rise (e ∷ es) t (suc i) x rise parts =
      rise_more e (insert es i (t, x)) (below_insert e.0 es t i x (parts.0 0 e (omega arith) (omega arith)) (sorted_head nat_cmp e.0 (keys_of es) rise))
      (gap_rise es t i x (sorted_tail nat_cmp e.0 (keys_of es) rise) (parts_rest e es t i parts))

  pub insert_this : (es : List (ℕ × X)) (t i : ℕ) (x : X) → lookup (is_at (nat_cmp t)) es ≡ None → lookup (is_at (nat_cmp t)) (insert es i (t, x)) ≡ Some x
  insert_this [] t zero x none = lookup_head (is_at (nat_cmp t)) (t, x) [] (itself t)
  insert_this [] t (suc i) x none = lookup_head (is_at (nat_cmp t)) (t, x) [] (itself t)
  insert_this (e ∷ es) t zero x none = lookup_head (is_at (nat_cmp t)) (t, x) (e ∷ es) (itself t)
  insert_this (e ∷ es) t (suc i) x none = by (is_at (nat_cmp t) e.0) none (insert_this es t i x)
    where
      by : (b : Bool) → cond b (Some e.1) (lookup (is_at (nat_cmp t)) es) ≡ None → (lookup (is_at (nat_cmp t)) es ≡ None → lookup (is_at (nat_cmp t)) (insert es i (t, x)) ≡ Some x) →
          cond b (Some e.1) (lookup (is_at (nat_cmp t)) (insert es i (t, x))) ≡ Some x
      by true h rest = absurd cc
      by false h rest = rest h

  -- ---- an entry less

  below_remove : (u : ℕ) (es : List (ℕ × X)) (i : ℕ) → IsBelow u es → IsBelow u (remove es i)
  below_remove u [] zero below = tt
  below_remove u [] (suc i) below = tt
  below_remove u (e ∷ es) zero below = below.1
  below_remove u (e ∷ es) (suc i) below = (below.0, below_remove u es i below.1)

  pub remove_rise : (es : List (ℕ × X)) (i : ℕ) → Rise es → Rise (remove es i)
  remove_rise [] zero rise = rise
  remove_rise [] (suc i) rise = rise
  remove_rise (e ∷ es) zero rise = sorted_tail nat_cmp e.0 (keys_of es) rise
  remove_rise (e ∷ es) (suc i) rise = rise_more e (remove es i) (below_remove e.0 es i (sorted_head nat_cmp e.0 (keys_of es) rise)) (remove_rise es i (sorted_tail nat_cmp e.0 (keys_of es) rise))

  pub remove_this : (es : List (ℕ × X)) (t i : ℕ) → i < length es → Rise es → Has es t i → lookup (is_at (nat_cmp t)) (remove es i) ≡ None
  remove_this [] t i lt rise has = absurd (omega (arith, lt))
  remove_this (e ∷ es) t zero lt rise has = below_none t es (subst (λ u. IsBelow u es) (has e) (sorted_head nat_cmp e.0 (keys_of es) rise))
  remove_this (e ∷ es) t (suc i) lt rise has =
      let l : i < length es = omega (arith, lt) in
      lookup_tail (is_at (nat_cmp t)) e (remove es i) (ap is_eq (turned e.0 t Less (head_other e es t i l rise has))) ∙ remove_this es t i l (sorted_tail nat_cmp e.0 (keys_of es) rise) has

  -- ---- the search

  module _ (es : List (ℕ × X)) (t : ℕ) where
    answers_rise : Rise es → IsNonDecreasingBy (λ e. ordering_index (nat_cmp e.0 t)) es
    answers_rise rise = searchable_from_sorted nat_cmp_total (λ (e : ℕ × X). e.0) es t
        (λ k d low lt. ap is_lt (turned (get_or es k d).0 (get_or es (k + 1) d).0 Less (rise_far es k (k + 1) d rise (omega arith) lt)))

    pub parted : (r : Result ℕ ℕ) → Rise es → IsBinarySearchResult (λ e. nat_cmp e.0 t) es r → IfErr r (Parts es t)
    parted (Ok i) rise at = _
    parted (Err i) rise at = at (answers_rise rise)

    pub has : (r : Result ℕ ℕ) → IsBinarySearchResult (λ e. nat_cmp e.0 t) es r → IfOk r (Has es t)
    has (Ok i) at = λ e. let d = get_or es i e in ranked d.0 t Equal (sym (at e))
    has (Err i) at = _
