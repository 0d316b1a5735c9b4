-- A walk along a chain up to an id of it.
use Rattle.std.proofs.Common.{◌≡◌, ◌≢◌, ℕ, ◌+◌, ◌<◌, List, [], ◌∷◌, ◌++◌, length, Option, Some, None, refl, sym, ◌∙◌, ap, subst, arith, append-nil, append_assoc}
use Rattle.std.proofs.lemmas.List.{length-append}
use Rattle.pc_chain.specs.Chains.{first_of, last_of, Avoids, AllHave, Leads}
use Rattle.pc_chain.proofs.ChainLaws.{avoids_middle, once}
use Rattle.pc_chain.proofs.ChainLemmas.{last_push, next_of_it, has_it}

module _ {I : Type 0} where
  -- of what comes before the id some were passed, the last of them just now, and the next one is here
  pub record Passed (id : I) (previous here : Option I) (count : ℕ) (before rest : List I) : Type 0 where
    pub passed : List I
    pub left : List I
    pub split : before ≡ passed ++ left
    pub here_is : here ≡ first_of (left ++ id ∷ rest)
    pub previous_is : previous ≡ last_of passed
    pub counted : length passed ≡ count

  pub passed_none : (id : I) (here : Option I) (before rest : List I) → here ≡ first_of (before ++ id ∷ rest) → Passed id None here 0 before rest
  passed_none id here before rest e = record { passed = []; left = before; split = refl; here_is = e; previous_is = refl; counted = refl }

  -- if the id is here, all before it were passed
  pub passed_all : (next : I → Option I) (id : I) (previous here : Option I) (count : ℕ) (before rest : List I) → Leads next (before ++ id ∷ rest) → Passed id previous here count before rest →
      here ≡ Some id → previous ≡ last_of before
  passed_all next id previous here count before rest l h e = by h.left refl
    where
      by : (left : List I) → h.left ≡ left → previous ≡ last_of before
      by [] f = h.previous_is ∙ ap last_of (sym (h.split ∙ (ap (λ ys. h.passed ++ ys) f ∙ append-nil h.passed)))
      by (x ∷ xs) f =
          let split : before ≡ h.passed ++ x ∷ xs = h.split ∙ ap (λ ys. h.passed ++ ys) f in
          let this : Some x ≡ Some id = sym (h.here_is ∙ ap (λ ys. first_of (ys ++ id ∷ rest)) f) ∙ e in
          let avoids : Avoids id (h.passed ++ x ∷ (xs ++ rest)) = subst (Avoids id) (ap (λ ys. ys ++ rest) split ∙ append_assoc h.passed (x ∷ xs) rest) (once next id before rest l) in
          absurd (avoids_middle id x h.passed (xs ++ rest) avoids cc)

  -- there is always one here
  pub passed_here : (id : I) (previous here : Option I) (count : ℕ) (before rest : List I) → Passed id previous here count before rest → here ≢ None
  passed_here id previous here count before rest h e = by h.left h.here_is
    where
      by : (left : List I) → here ≡ first_of (left ++ id ∷ rest) → ⊥
      by [] f = let g : None ≡ Some id = sym e ∙ f in cc
      by (x ∷ xs) f = let g : None ≡ Some x = sym e ∙ f in cc

  length_push : (xs : List I) (x : I) → length (xs ++ x ∷ []) ≡ length xs + 1
  length_push [] x = refl
  length_push (y ∷ ys) x = let h = length_push ys x in omega (arith, h)

  -- the one that is here, with what is after it
  pub here_stands : (id : I) (previous here : Option I) (count : ℕ) (before rest : List I) (x : I) → Passed id previous here count before rest → here ≡ Some x →
      (front behind : List I) × (before ++ id ∷ rest ≡ front ++ x ∷ behind)
  here_stands id previous here count before rest x h e = by h.left h.split h.here_is
    where
      by : (left : List I) → before ≡ h.passed ++ left → here ≡ first_of (left ++ id ∷ rest) → (front behind : List I) × (before ++ id ∷ rest ≡ front ++ x ∷ behind)
      by [] s f = let g : id ≡ x = cc in (h.passed, rest, ap (λ ys. ys ++ id ∷ rest) (s ∙ append-nil h.passed) ∙ ap (λ y. h.passed ++ y ∷ rest) g)
      by (y ∷ ys) s f = let g : y ≡ x = cc in (h.passed, ys ++ id ∷ rest, ap (λ zs. zs ++ id ∷ rest) s ∙ (append_assoc h.passed (y ∷ ys) (id ∷ rest) ∙ ap (λ z. h.passed ++ z ∷ (ys ++ id ∷ rest)) g))

  pub here_has : (has : I → Type 0) (id : I) (previous here : Option I) (count : ℕ) (before rest : List I) (x : I) → AllHave has (before ++ id ∷ rest) → Passed id previous here count before rest → here ≡ Some x → has x
  here_has has id previous here count before rest x a h e = let s = here_stands id previous here count before rest x h e in has_it has s.0 s.1 x (subst (AllHave has) s.2 a)

  -- one more is passed, which isn't the id
  pub passed_next : (next : I → Option I) (id : I) (previous here new : Option I) (count : ℕ) (before rest : List I) (x : I) → Leads next (before ++ id ∷ rest) → Passed id previous here count before rest → here ≡ Some x →
      x ≢ id → new ≡ next x → Passed id (Some x) new (count + 1) before rest
  passed_next next id previous here new count before rest x l h e n f = by h.left h.split h.here_is
    where
      by : (left : List I) → before ≡ h.passed ++ left → here ≡ first_of (left ++ id ∷ rest) → Passed id (Some x) new (count + 1) before rest
      by [] s g = absurd (n (let z : id ≡ x = cc in sym z))
      by (y ∷ ys) s g =
          let z : y ≡ x = cc in
          record {
            passed = h.passed ++ y ∷ [];
            left = ys;
            split = s ∙ sym (append_assoc h.passed (y ∷ []) ys);
            here_is = f ∙ (ap next (sym z) ∙ next_of_it next h.passed (ys ++ id ∷ rest) y (subst (Leads next) (ap (λ zs. zs ++ id ∷ rest) s ∙ append_assoc h.passed (y ∷ ys) (id ∷ rest)) l));
            previous_is = ap Some (sym z) ∙ sym (last_push h.passed y);
            counted = let k = length_push h.passed y in omega (arith, k, h.counted);
          }

  -- fewer were passed than there are
  pub passed_fewer : (id : I) (previous here : Option I) (count : ℕ) (before rest : List I) → Passed id previous here count before rest → count < length (before ++ id ∷ rest)
  passed_fewer id previous here count before rest h =
      let a = length-append before (id ∷ rest) in
      let b = ap length h.split ∙ length-append h.passed h.left in
      omega (arith, a, b, h.counted)
