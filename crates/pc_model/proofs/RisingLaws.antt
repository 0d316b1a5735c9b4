-- Entries that ascend by key.
use Rattle.std.proofs.Common.{◌≡◌, ℕ, List, [], ◌∷◌, Some, None, refl, sym, ap, ◌∙◌, cond, Bool, true, false, ◌&&◌, ◌||◌}
use Rattle.std.specs.Prelude.{IsTrue}
use Rattle.std.specs.List.{list_any}
use Rattle.std.specs.declared.cmp.Ordering.{Ordering}
use Rattle.std.specs.declared.cmp.Ordering.TheVariants.{Less, Equal, Greater}
use Rattle.std.specs.Ordering.{is_eq, is_lt}
use Rattle.std.specs.FinMap.{find, is_sorted}
use Rattle.std.specs.FinMap.Entries.{below_all}
use Rattle.std.proofs.lemmas.Cmp.{eq_by_cmp_equiv}
use Rattle.pc_model.specs.Database.{key_cmp, key_order, same_bytes}
use Rattle.pc_model.proofs.JoinLaws.{one_key}

-- a test that holds: both of its parts hold; and back
pub both : (a b : Bool) → (a && b) ≡ true → (a ≡ true) × (b ≡ true)
both true b e = (refl, e)
both false b e = cc

pub and_of : (a b : Bool) → a ≡ true → b ≡ true → (a && b) ≡ true
and_of true b e f = f
and_of false b e f = cc

pub is_less : (o : Ordering) → is_lt o ≡ true → o ≡ Less
is_less Less e = refl
is_less Equal e = cc
is_less Greater e = cc

-- the key is less than those of the entries
abbrev pub Below : {X : Type 0} → List ℕ → List (List ℕ × X) → Type 0
Below key es = below_all key_cmp key es ≡ true

-- the entries ascend by key
abbrev pub Rise : {X : Type 0} → List (List ℕ × X) → Type 0
Rise es = is_sorted key_cmp es ≡ true

-- a lesser key is below as well
pub lesser_below : {X : Type 0} (k l : List ℕ) (es : List (List ℕ × X)) → key_cmp k l ≡ Less → Below l es → Below k es
lesser_below k l [] less below = refl
lesser_below k l (e ∷ es) less below =
    let parts = both (is_lt (key_cmp l e.0)) (below_all key_cmp l es) below in
    and_of (is_lt (key_cmp k e.0)) (below_all key_cmp k es) (ap is_lt (key_order.total.trans k l e.0 less (is_less (key_cmp l e.0) parts.0))) (lesser_below k l es less parts.1)

apart : (o : Ordering) → is_lt o ≡ true → is_eq o ≡ false
apart Less e = refl
apart Equal e = cc
apart Greater e = cc

-- no entry has a key that is below all
pub none_below : {X : Type 0} (key : List ℕ) (es : List (List ℕ × X)) → below_all key_cmp key es ≡ true → find key_cmp key es ≡ None
none_below key [] below = refl
none_below key (e ∷ es) below =
    let parts = both (is_lt (key_cmp key e.0)) (below_all key_cmp key es) below in
    ap (λ b. cond b (Some e.1) (find key_cmp key es)) (apart (key_cmp key e.0) parts.0) ∙ none_below key es parts.1

-- a test that fails at each entry that is found finds none
pub none_found : {X : Type 0} (es : List (List ℕ × X)) (f : (List ℕ × X) → Bool) → IsTrue (is_sorted key_cmp es) → ((e : List ℕ × X) → find key_cmp e.0 es ≡ Some e.1 → f e ≡ false) → list_any f es ≡ false
none_found [] f rises fails = refl
none_found {X} (e ∷ es) f rises fails =
    let parts = both (below_all key_cmp e.0 es) (is_sorted key_cmp es) rises in
    ap (λ b. b || list_any f es) (fails e (ap (λ b. cond b (Some e.1) (find key_cmp e.0 es)) ((eq_by_cmp_equiv key_order.total).refl e.0)))
    ∙ none_found es f parts.1 (λ x there. fails x (later_found x parts.0 there))
  where
    later_found : (x : List ℕ × X) → below_all key_cmp e.0 es ≡ true → find key_cmp x.0 es ≡ Some x.1 → find key_cmp x.0 (e ∷ es) ≡ Some x.1
    later_found x below there = by_key (same_bytes x.0 e.0) refl
      where
        by_key : (b : Bool) → same_bytes x.0 e.0 ≡ b → cond b (Some e.1) (find key_cmp x.0 es) ≡ Some x.1
        by_key true same = let none : find key_cmp x.0 es ≡ None = ap (λ k. find key_cmp k es) (one_key x.0 e.0 same) ∙ none_below e.0 es below in absurd (no_both (sym none ∙ there))
          where
            no_both : {A : Type 0} {y : A} → None ≡ Some y → ⊥
            no_both e = cc
        by_key false same = there
