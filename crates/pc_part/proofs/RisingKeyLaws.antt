-- Keys that ascend in order are sorted.
use Rattle.std.proofs.Common.{◌≡◌, ℕ, ◌&&◌, T, Bool, true, false, List, [], ◌∷◌, refl, sym, subst, arith}
use Rattle.std.specs.List.{AllByRecursion}
use Rattle.std.specs.declared.cmp.Ordering.{Ordering}
use Rattle.std.specs.declared.cmp.Ordering.TheVariants.{Less, Equal, Greater}
use Rattle.std.specs.Ordering.{is_lt}
use Rattle.std.specs.FinMap.{is_sorted}
use Rattle.std.specs.FinMap.Entries.{below_all}
use Rattle.pc_types.specs.Limits.{IsKey}
use Rattle.pc_model.specs.Database.{key_cmp, key_order, KeysRise}
use Rattle.pc_model.proofs.PairMapLaws.{computes, tested}

both : (a b : Bool) → T a → T b → T (a && b)
both true b p q = q
both false b p q = p

pub first : (a b : Bool) → T (a && b) → T a
first true b p = tt
first false b p = p

pub second : (a b : Bool) → T (a && b) → T b
second true b p = p
second false b p = absurd p

pub less : (o : Ordering) → T (is_lt o) → o ≡ Less
less Less p = refl
less Equal p = absurd p
less Greater p = absurd p

is_less : (o : Ordering) → o ≡ Less → T (is_lt o)
is_less o e = subst (λ r. T (is_lt r)) (sym e) tt

empty_less : (key : List ℕ) → IsKey key → T (is_lt (key_cmp [] key))
empty_less [] h = absurd (omega (arith, h.0))
empty_less (b ∷ key) h = tt

module _ {X : Type 0} where
  -- the keys ascend, the first above this one
  abbrev pub RisesFrom : List ℕ → List (List ℕ × X) → Type 0
  RisesFrom last [] = Unit {0}
  RisesFrom last (e ∷ es) = (is_lt (key_cmp last e.0) ≡ true) × RisesFrom e.0 es

  below_less : (k l : List ℕ) (es : List (List ℕ × X)) → T (is_lt (key_cmp k l)) → T (below_all key_cmp l es) → T (below_all key_cmp k es)
  below_less k l [] lt h = tt
  below_less k l (e ∷ es) lt h = both _ _ (is_less (key_cmp k e.0) (key_order.total.trans k l e.0 (less (key_cmp k l) lt) (less (key_cmp l e.0) (first _ _ h)))) (below_less k l es lt (second _ _ h))

  rises_below : (last : List ℕ) (es : List (List ℕ × X)) → RisesFrom last es → T (below_all key_cmp last es)
  rises_below last [] h = tt
  rises_below last (e ∷ es) h = both _ _ (computes h.0) (below_less last e.0 es (computes h.0) (rises_below e.0 es h.1))

  sorted : (last : List ℕ) (es : List (List ℕ × X)) → RisesFrom last es → T (is_sorted key_cmp es)
  sorted last [] h = tt
  sorted last (e ∷ es) h = both _ _ (rises_below e.0 es h.1) (sorted e.0 es h.1)

  pub keys_rise : (last : List ℕ) (es : List (List ℕ × X)) → RisesFrom last es → KeysRise es
  keys_rise last es h = tested (sorted last es h)

  rises : (last : List ℕ) (es : List (List ℕ × X)) → T (below_all key_cmp last es) → T (is_sorted key_cmp es) → RisesFrom last es
  rises last [] below h = tt
  rises last (e ∷ es) below h = (tested (first _ _ below), rises e.0 es (first _ _ h) (second _ _ h))

  empty_below : (es : List (List ℕ × X)) → AllByRecursion (λ e. IsKey e.0) es → T (below_all key_cmp [] es)
  empty_below [] h = tt
  empty_below (e ∷ es) h = both _ _ (empty_less e.0 h.0) (empty_below es h.1)

  -- keys that ascend come after the empty one, since no key is empty
  pub rises_from_empty : (es : List (List ℕ × X)) → AllByRecursion (λ e. IsKey e.0) es → KeysRise es → RisesFrom [] es
  rises_from_empty es keys h = rises [] es (empty_below es keys) (computes h)
