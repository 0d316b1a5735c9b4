-- Conflict as what two files have at each key.
use Rattle.std.proofs.Common.{◌≡◌, ℕ, eqb, ◌&&◌, ◌||◌, not, Bool, true, false, cond, List, [], ◌∷◌, Option, Some, None, refl, sym, ap, subst, ◌∙◌, arith}
use Rattle.std.proofs.lemmas.Bool.Decides.{nat_tests}
use Rattle.std.specs.List.{list_any}
use Rattle.std.specs.FinMap.{find, is_sorted}
use Rattle.std.specs.FinMap.Entries.{below_all}
use Rattle.std.specs.Ordering.{is_eq}
use Rattle.std.specs.Cmp.{tied_itself}
use Rattle.pc_model.specs.Maps.{get}
use Rattle.pc_model.specs.Database.{key_cmp, key_order, same_bytes}
use Rattle.pc_model.specs.Points.{AtPoint, Triples}
use Rattle.pc_model.specs.Files.{conflict, differs, same_content}
use Rattle.pc_model.proofs.MapLaws.{get-entries}
use Rattle.pc_model.proofs.PairMapLaws.{tested}
use Rattle.pc_model.proofs.JoinLaws.{one_key}
use Rattle.pc_model.proofs.RisingLaws.{Rise, Below, both, none_below}

-- what the entries have at a key, if it differs nowhere from what is there
abbrev Apart : (List ℕ → Option AtPoint) → (List ℕ → Option AtPoint) → Type 0
Apart here there = (q : List ℕ) (a : AtPoint) → here q ≡ Some a → differs a (there q) ≡ false

module _ (there : List ℕ → Option AtPoint) where
  abbrev any_differs : List (List ℕ × AtPoint) → Bool
  any_differs es = list_any (λ e. differs e.1 (there e.0)) es

  or_none : (s t : Bool) → (s || t) ≡ false → (s ≡ false) × (t ≡ false)
  or_none true t e = cc
  or_none false t e = (refl, e)

  apart_at : (es : List (List ℕ × AtPoint)) → any_differs es ≡ false → Apart (λ q. find key_cmp q es) there
  apart_at [] none q a is = cc
  apart_at (e ∷ es) none q a is =
      let parts = or_none (differs e.1 (there e.0)) (any_differs es) none in
      by (same_bytes q e.0) refl parts.0 (apart_at es parts.1 q a) is
    where
      own : (b : AtPoint) (x : Option AtPoint) → Some b ≡ Some a → differs b x ≡ false → differs a x ≡ false
      own b x same h = let is : b ≡ a = cc in subst (λ (c : AtPoint). differs c x ≡ false) is h

      by : (t : Bool) → same_bytes q e.0 ≡ t → differs e.1 (there e.0) ≡ false → (find key_cmp q es ≡ Some a → differs a (there q) ≡ false)
          → cond t (Some e.1) (find key_cmp q es) ≡ Some a → differs a (there q) ≡ false
      by true same first rest h = own e.1 (there q) h (ap (λ k. differs e.1 (there k)) (one_key q e.0 same) ∙ first)
      by false same first rest h = rest h

  find_first : (e : List ℕ × AtPoint) (es : List (List ℕ × AtPoint)) → find key_cmp e.0 (e ∷ es) ≡ Some e.1
  find_first e es = ap (λ o. cond (is_eq o) (Some e.1) (find key_cmp e.0 es)) (tied_itself key_order.total e.0)

  none_differs : (es : List (List ℕ × AtPoint)) → Rise es → Apart (λ q. find key_cmp q es) there → any_differs es ≡ false
  none_differs [] rise apart = refl
  none_differs (e ∷ es) rise apart =
      let parts = both (below_all key_cmp e.0 es) (is_sorted key_cmp es) rise in
      ap (λ t. t || any_differs es) (apart e.0 e.1 (find_first e es)) ∙ none_differs es parts.1 (λ q a is. by q a (same_bytes q e.0) refl parts.0 is (apart q a))
    where
      by : (q : List ℕ) (a : AtPoint) (t : Bool) → same_bytes q e.0 ≡ t → Below e.0 es → find key_cmp q es ≡ Some a → (cond t (Some e.1) (find key_cmp q es) ≡ Some a → differs a (there q) ≡ false) → differs a (there q) ≡ false
      by q a true same below is h = let none : None ≡ Some a = sym (none_below e.0 es below) ∙ ap (λ k. find key_cmp k es) (sym (one_key q e.0 same)) ∙ is in absurd cc
      by q a false same below is h = h is

-- ---- what one point has

same_content_is : (c d : Option (List ℕ)) → same_content c d ≡ true → c ≡ d
same_content_is None None e = refl
same_content_is None (Some w) e = cc
same_content_is (Some v) None e = cc
same_content_is (Some v) (Some w) e = ap (λ (k : List ℕ). Some k) (one_key v w e)

same_triple : (a b : AtPoint) → a.point ≡ b.point → differs a (Some b) ≡ false → a ≡ b
same_triple a b point same = let c = same_content_is a.content b.content (by (eqb a.point b.point) (same_content a.content b.content) same (grind (arith, nat_tests, point))) in λ i. record { point = point i; content = c i }
  where
    by : (p c : Bool) → (p && not c) ≡ false → p ≡ true → c ≡ true
    by true true e h = refl
    by true false e h = cc
    by false c e h = cc

same_itself : (c : Option (List ℕ)) → same_content c c ≡ true
same_itself None = refl
same_itself (Some v) = ap is_eq (tied_itself key_order.total v)

no_difference : (a b : AtPoint) → (a.point ≡ b.point → a ≡ b) → differs a (Some b) ≡ false
no_difference a b one = by (eqb a.point b.point) refl
  where
    by : (t : Bool) → eqb a.point b.point ≡ t → (t && not (same_content a.content b.content)) ≡ false
    by true e =
        let point : a.point ≡ b.point = grind (arith, nat_tests) in
        ap not (ap (λ (c : AtPoint). same_content a.content c.content) (sym (one point)) ∙ same_itself a.content)
    by false e = refl

-- ---- of two files

module _ (m n : Triples) where
  -- files that don't conflict have one triple at each key and point
  pub one_triple : conflict m n ≡ false → (q : List ℕ) (a b : AtPoint) → get m q ≡ Some a → get n q ≡ Some b → a.point ≡ b.point → a ≡ b
  one_triple none q a b in_m in_n point = same_triple a b point (ap (differs a) (sym in_n) ∙ apart_at (get n) m.entries none q a (sym (get-entries m q) ∙ in_m))

  -- and files that have don't conflict
  pub no_conflict : ((q : List ℕ) (a b : AtPoint) → get m q ≡ Some a → get n q ≡ Some b → a.point ≡ b.point → a ≡ b) → conflict m n ≡ false
  no_conflict one = none_differs (get n) m.entries (tested m.rises) (λ q a is. by q a (get n q) refl (get-entries m q ∙ is))
    where
      by : (q : List ℕ) (a : AtPoint) (x : Option AtPoint) → get n q ≡ x → get m q ≡ Some a → differs a x ≡ false
      by q a None there here = refl
      by q a (Some b) there here = no_difference a b (one q a b here there)
