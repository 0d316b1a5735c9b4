-- Chains over links, as lists of ids.
use Rattle.std.proofs.Common.{◌≡◌, ◌≢◌, ℕ, zero, suc, ◌==◌, ◌<◌, ◌≤◌, inl, inr, List, [], ◌∷◌, ◌++◌, length, Option, None, is_some, Bool, true, false, ◌||◌, refl, sym, ◌∙◌, ap, subst, arith}
use Rattle.std.proofs.lemmas.Bool.{eqb-true, eq-eqb, ne_eqb, cases_eq, or_cases, or_parts, or_right, false_from_ne_true}
use Rattle.std.specs.Prelude.{unwrap_or}
use Rattle.std.proofs.lemmas.List.Folds.{list_any-append}
use Rattle.pc_chain.specs.declared.chain.Chain.{Chain}
use Rattle.pc_chain.specs.Chains as chains
use Rattle.pc_chain.specs.Chains.{Leads, AllHave, Avoids, AreDisjoint}
use Rattle.pc_chain.proofs.ChainLaws.{chain_fits}
use Rattle.pc_locks.specs.Lines.{Links, HasLink, link_at, next_id, linked_ids, ids_of, IsLine, AreLines, LineBecomes}
use Rattle.pc_locks.specs.States.{is_listed, first_in_list, rest_of_list, last_in_list}

-- an id that has a link
within : (links : Links) (id : ℕ) → HasLink links id → id < length links
within [] id h = absurd cc
within (x ∷ xs) zero h = omega arith
within (x ∷ xs) (suc id) h = let n = within xs id h in omega (arith, n)

pub fits : (links : Links) (chain : Chain ℕ) (xs : List ℕ) → IsLine links chain xs → length xs ≤ length links
fits links chain xs c = chain_fits (HasLink links) (next_id links) chain xs (length links) (λ id h. within links id h) c

follow_is : (links : Links) (n : ℕ) (xs : List ℕ) → Leads (next_id links) xs → length xs ≤ n → linked_ids links n (chains.first_of xs) ≡ xs
follow_is links n [] l h = refl
follow_is links zero (x ∷ xs) l h = absurd (omega (arith, h))
follow_is links (suc n) (x ∷ xs) l h = ap (λ ys. x ∷ ys) (ap (linked_ids links n) l.0 ∙ follow_is links n xs l.2 (omega (arith, h)))

-- over its links a chain is one list
pub line_is : (links : Links) (chain : Chain ℕ) (xs : List ℕ) → IsLine links chain xs → ids_of links chain ≡ xs
line_is links chain xs c = ap (linked_ids links (length links)) c.first ∙ follow_is links (length links) xs c.leads (fits links chain xs c)

-- what is in none of the list
pub avoids_unlisted : (id : ℕ) (xs : List ℕ) → is_listed xs id ≡ false → Avoids id xs
avoids_unlisted id [] e = tt
avoids_unlisted id (x ∷ xs) e =
    let h = or_parts (x == id) (is_listed xs id) e in
    ((λ f. let g = eq-eqb x id f in let z = h.0 in cc), avoids_unlisted id xs h.1)

pub unlisted_avoids : (id : ℕ) (xs : List ℕ) → Avoids id xs → is_listed xs id ≡ false
unlisted_avoids id [] a = refl
unlisted_avoids id (x ∷ xs) a = rw (ne_eqb x id a.0) (unlisted_avoids id xs a.1)

pub apart_lists : (xs ys : List ℕ) → ((id : ℕ) → is_listed ys id ≡ true → is_listed xs id ≡ false) → AreDisjoint xs ys
apart_lists xs [] f = tt
apart_lists xs (y ∷ ys) f =
    (avoids_unlisted y xs (f y (ap (λ b. b || is_listed ys y) (eq-eqb y y refl))), apart_lists xs ys (λ id e. f id (or_right (y == id) (is_listed ys id) e)))

-- an id of one chain is in no other
pub others_lack : (links : Links) (lines : ℕ → Chain ℕ) (j k id : ℕ) → AreLines links lines → j ≢ k → is_listed (ids_of links (lines j)) id ≡ true → is_listed (ids_of links (lines k)) id ≡ false
others_lack links lines j k id a n e = false_from_ne_true (is_listed (ids_of links (lines k)) id) (λ f. n (a.apart j k id e f))

pub become : (links new_links : Links) (lines new_lines : ℕ → Chain ℕ) (k : ℕ) (new : List ℕ) → AreLines links lines → IsLine new_links (new_lines k) new →
    ((j : ℕ) → j ≢ k → IsLine new_links (new_lines j) (ids_of links (lines j))) →
    ((id j : ℕ) → j ≢ k → is_listed new id ≡ true → is_listed (ids_of links (lines j)) id ≡ false) → LineBecomes links new_links lines new_lines k new
become links new_links lines new_lines k new a l o s =
    let this = line_is new_links (new_lines k) new l in
    let others : (j : ℕ) → j ≢ k → ids_of new_links (new_lines j) ≡ ids_of links (lines j) = λ j n. line_is new_links (new_lines j) (ids_of links (lines j)) (o j n) in
    record {
      kept = record {
        line = λ j. elim (cases_eq j k) [
          | inl e ↦ subst (λ x. IsLine new_links (new_lines x) (ids_of new_links (new_lines x))) (sym e) (subst (IsLine new_links (new_lines k)) (sym this) l)
          | inr n ↦ subst (IsLine new_links (new_lines j)) (sym (others j n)) (o j n)
        ];
        apart = λ i j id e f. elim (cases_eq i k) [
          | inl p ↦ elim (cases_eq j k) [
            | inl q ↦ p ∙ sym q
            | inr n ↦ absurd (
                let g : is_listed new id ≡ true = sym (ap (λ xs. is_listed xs id) (ap (λ x. ids_of new_links (new_lines x)) p ∙ this)) ∙ e in
                let z : false ≡ true = sym (s id j n g) ∙ (sym (ap (λ xs. is_listed xs id) (others j n)) ∙ f) in cc)
          ]
          | inr m ↦ elim (cases_eq j k) [
            | inl q ↦ absurd (
                let g : is_listed new id ≡ true = sym (ap (λ xs. is_listed xs id) (ap (λ x. ids_of new_links (new_lines x)) q ∙ this)) ∙ f in
                let z : false ≡ true = sym (s id i m g) ∙ (sym (ap (λ xs. is_listed xs id) (others i m)) ∙ e) in cc)
            | inr n ↦ a.apart i j id (sym (ap (λ xs. is_listed xs id) (others i m)) ∙ e) (sym (ap (λ xs. is_listed xs id) (others j n)) ∙ f)
          ]
        ];
      };
      this = this;
      others = others;
    }

pub listed_end : (xs : List ℕ) (id x : ℕ) → is_listed (xs ++ id ∷ []) x ≡ (is_listed xs x || ((id == x) || false))
listed_end xs id x = list_any-append (λ y. y == x) xs (id ∷ [])

no_end : (b : Bool) → (b || false) ≡ true → b ≡ true
no_end true e = refl
no_end false e = absurd cc

-- an id at the end of one
pub become_pushed : (links new_links : Links) (lines new_lines : ℕ → Chain ℕ) (k id : ℕ) → AreLines links lines → ((j : ℕ) → is_listed (ids_of links (lines j)) id ≡ false) →
    IsLine new_links (new_lines k) (ids_of links (lines k) ++ id ∷ []) →
    ((ys : List ℕ) (other : Chain ℕ) → IsLine links other ys → AreDisjoint (ids_of links (lines k)) ys → Avoids id ys → IsLine new_links other ys) →
    ((j : ℕ) → j ≢ k → new_lines j ≡ lines j) → LineBecomes links new_links lines new_lines k (ids_of links (lines k) ++ id ∷ [])
become_pushed links new_links lines new_lines k id a f l o same =
    become links new_links lines new_lines k (ids_of links (lines k) ++ id ∷ []) a l
    (λ j n. subst (λ c. IsLine new_links c (ids_of links (lines j))) (sym (same j n))
    (o (ids_of links (lines j)) (lines j) (a.line j) (apart_lists (ids_of links (lines k)) (ids_of links (lines j)) (λ x e. others_lack links lines j k x a n e)) (avoids_unlisted id (ids_of links (lines j)) (f j))))
    (λ x j n e. elim (or_cases (is_listed (ids_of links (lines k)) x) ((id == x) || false) (sym (listed_end (ids_of links (lines k)) id x) ∙ e)) [
      | inl g ↦ others_lack links lines k j x a (λ h. n (sym h)) g
      | inr g ↦ let h : id ≡ x = eqb-true id x (no_end (id == x) g) in subst (λ y. is_listed (ids_of links (lines j)) y ≡ false) h (f j)
    ])

-- fewer ids in one
pub become_fewer : (links new_links : Links) (lines new_lines : ℕ → Chain ℕ) (k : ℕ) (new : List ℕ) → AreLines links lines →
    ((id : ℕ) → is_listed new id ≡ true → is_listed (ids_of links (lines k)) id ≡ true) → IsLine new_links (new_lines k) new →
    ((ys : List ℕ) (other : Chain ℕ) → IsLine links other ys → AreDisjoint (ids_of links (lines k)) ys → IsLine new_links other ys) →
    ((j : ℕ) → j ≢ k → new_lines j ≡ lines j) → LineBecomes links new_links lines new_lines k new
become_fewer links new_links lines new_lines k new a f l o same =
    become links new_links lines new_lines k new a l
    (λ j n. subst (λ c. IsLine new_links c (ids_of links (lines j))) (sym (same j n))
    (o (ids_of links (lines j)) (lines j) (a.line j) (apart_lists (ids_of links (lines k)) (ids_of links (lines j)) (λ x e. others_lack links lines j k x a n e))))
    (λ x j n e. others_lack links lines k j x a (λ h. n (sym h)) (f x e))

pub rest_listed : (xs : List ℕ) (id : ℕ) → is_listed (rest_of_list xs) id ≡ true → is_listed xs id ≡ true
rest_listed [] id e = e
rest_listed (x ∷ xs) id e = or_right (x == id) (is_listed xs id) e

-- the words of the two crates are the same
pub same_first : (xs : List ℕ) → chains.first_of xs ≡ first_in_list xs
same_first [] = refl
same_first (x ∷ xs) = refl

pub same_rest : (xs : List ℕ) → chains.rest_of xs ≡ rest_of_list xs
same_rest [] = refl
same_rest (x ∷ xs) = refl

pub same_last : (xs : List ℕ) → chains.last_of xs ≡ last_in_list xs
same_last [] = refl
same_last (x ∷ []) = refl
same_last (x ∷ y ∷ ys) = same_last (y ∷ ys)

leads_on : (next new : ℕ → Option ℕ) (xs : List ℕ) → ((id : ℕ) → is_listed xs id ≡ true → new id ≡ next id) → Leads next xs → Leads new xs
leads_on next new [] f l = tt
leads_on next new (x ∷ xs) f l = (f x (ap (λ b. b || is_listed xs x) (eq-eqb x x refl)) ∙ l.0, l.1, leads_on next new xs (λ id e. f id (or_right (x == id) (is_listed xs id) e)) l.2)

have_on : (has new : ℕ → Type 0) (xs : List ℕ) → ((id : ℕ) → is_listed xs id ≡ true → has id → new id) → AllHave has xs → AllHave new xs
have_on has new [] f h = tt
have_on has new (x ∷ xs) f h = (f x (ap (λ b. b || is_listed xs x) (eq-eqb x x refl)) h.0, have_on has new xs (λ id e. f id (or_right (x == id) (is_listed xs id) e)) h.1)

-- an id of a chain has a link
pub have_listed : (has : ℕ → Type 0) (xs : List ℕ) (id : ℕ) → AllHave has xs → is_listed xs id ≡ true → has id
have_listed has [] id h e = absurd cc
have_listed has (x ∷ xs) id h e = elim (or_cases (x == id) (is_listed xs id) e) [
  | inl f ↦ subst has (eqb-true x id f) h.0
  | inr f ↦ have_listed has xs id h.1 f
]

-- links of which those of a chain stay
line_on : (links new_links : Links) (chain : Chain ℕ) (xs : List ℕ) → ((id : ℕ) → is_listed xs id ≡ true → link_at new_links id ≡ link_at links id) → IsLine links chain xs → IsLine new_links chain xs
line_on links new_links chain xs f c = record {
  first = c.first;
  last = c.last;
  leads = leads_on (next_id links) (next_id new_links) xs (λ id e. ap (λ o. unwrap_or o None) (f id e)) c.leads;
  held = have_on (HasLink links) (HasLink new_links) xs (λ id e h. ap is_some (f id e) ∙ h) c.held;
}

-- the chains are the lists that they were
pub record LinesStay (links new_links : Links) (lines : ℕ → Chain ℕ) : Type 0 where
  pub kept : AreLines new_links lines
  pub ids : (k : ℕ) → ids_of new_links (lines k) ≡ ids_of links (lines k)

pub lines_stay : (links new_links : Links) (lines : ℕ → Chain ℕ) → ((k id : ℕ) → is_listed (ids_of links (lines k)) id ≡ true → link_at new_links id ≡ link_at links id) → AreLines links lines → LinesStay links new_links lines
lines_stay links new_links lines f a =
    let line : (k : ℕ) → IsLine new_links (lines k) (ids_of links (lines k)) = λ k. line_on links new_links (lines k) (ids_of links (lines k)) (f k) (a.line k) in
    let ids : (k : ℕ) → ids_of new_links (lines k) ≡ ids_of links (lines k) = λ k. line_is new_links (lines k) (ids_of links (lines k)) (line k) in
    record {
      kept = record {
        line = λ k. subst (IsLine new_links (lines k)) (sym (ids k)) (line k);
        apart = λ j k id e g. a.apart j k id (sym (ap (λ xs. is_listed xs id) (ids j)) ∙ e) (sym (ap (λ xs. is_listed xs id) (ids k)) ∙ g);
      };
      ids = ids;
    }

-- an id without a link is in none
pub linkless : (links : Links) (lines : ℕ → Chain ℕ) (k id : ℕ) → AreLines links lines → link_at links id ≡ None → is_listed (ids_of links (lines k)) id ≡ false
linkless links lines k id a e = false_from_ne_true (is_listed (ids_of links (lines k)) id) (λ f.
    let h : is_some (link_at links id) ≡ true = have_listed (HasLink links) (ids_of links (lines k)) id (a.line k).held f in
    let z : false ≡ true = sym (ap is_some e) ∙ h in cc)

-- if no id is in any
pub lines_none : (links : Links) (lines : ℕ → Chain ℕ) → ((k : ℕ) → (lines k).first ≡ None) → ((k : ℕ) → (lines k).last ≡ None) → AreLines links lines
lines_none links lines f l = record {
  line = λ k. subst (IsLine links (lines k)) (sym (ap (linked_ids links (length links)) (f k))) (record { first = f k; last = l k; leads = tt; held = tt });
  apart = λ j k id e g. absurd (let h : false ≡ true = sym (ap (λ o. is_listed (linked_ids links (length links) o) id) (f j)) ∙ e in cc);
}
