-- Two lists of triples merged key by key: the join, and where two triples clash; and how both are gone through together.
use Rattle.std.proofs.Common.{◌≡◌, ℕ, ◌+◌, ◌≤◌, ◌<◌, nat_lt, Bool, true, false, cond, List, [], ◌∷◌, ◌++◌, length, Option, Some, None, slice_get, refl, sym, ap, subst, ◌∙◌, append_assoc, append-nil, arith}
use Rattle.std.proofs.lemmas.List.{map-append, length-append, length-map}
use Rattle.std.specs.Option.{MatchOption, option_to_list}
use Rattle.std.specs.declared.cmp.Ordering.{Ordering}
use Rattle.std.specs.declared.cmp.Ordering.TheVariants.{Less, Equal, Greater}
use Rattle.itertools.specs.List.{by_ordering}
use Rattle.itertools.specs.declared.either_or_both.EitherOrBoth.TheVariants as either
use Rattle.itertools.proofs.ListLemmas.{merge_join_by-nil}
use Rattle.pc_types.specs.declared.Triple.{Triple}
use Rattle.pc_model.specs.Database.{key_cmp, key_order}
use Rattle.pc_model.specs.Files.{differs}
use Rattle.pc_model.specs.Points.{AtPoint, later}
use Rattle.pc_model.specs.TripleLists.{entry_of, map_entries}
use Rattle.pc_model.specs.Replies.{is_empty}
use Rattle.pc_part.specs.Joins.{clash_at}
use Rattle.pc_model.specs.Merges.{with_content, gathered, merged}
use Rattle.pc_model.proofs.MergeLaws.{merged_items}
use Rattle.pc_model.proofs.MergeItemLaws.{items}
use Rattle.pc_taken.specs.Sides.{first_behind, second_behind, next_merged, clash, least_side, lesser_side}
use Rattle.pc_taken.specs.declared.sides.Side.{Side}

abbrev pub joins : List Triple → List Triple → List (List ℕ × AtPoint)
joins a b = merged later (map_entries a) (map_entries b)

abbrev pub clashes : List Triple → List Triple → List (List ℕ × Unit {0})
clashes a b = merged clash_at (map_entries a) (map_entries b)

-- a merge, from the fronts of both lists
module _ {A B C : Type 0} (rule : Option A → Option B → Option C) where
  first_alone : (x : List ℕ × A) (xs : List (List ℕ × A)) → merged rule (x ∷ xs) [] ≡ with_content x.0 (rule (Some x.1) None) (merged rule xs [])
  first_alone x xs = sym (merged_items rule (x ∷ xs) []) ∙ ap (λ l. with_content x.0 (rule (Some x.1) None) (gathered rule l)) (sym (merge_join_by-nil (λ (x : List ℕ × A) (y : List ℕ × B). key_cmp x.0 y.0) xs)) ∙ ap (with_content x.0 (rule (Some x.1) None)) (merged_items rule xs [])

  second_alone : (y : List ℕ × B) (ys : List (List ℕ × B)) → merged rule [] (y ∷ ys) ≡ with_content y.0 (rule None (Some y.1)) (merged rule [] ys)
  second_alone y ys = sym (merged_items rule [] (y ∷ ys)) ∙ ap (with_content y.0 (rule None (Some y.1))) (merged_items rule [] ys)

  module _ (x : List ℕ × A) (y : List ℕ × B) (xs : List (List ℕ × A)) (ys : List (List ℕ × B)) where
    unrolled : (o : Ordering) → key_cmp x.0 y.0 ≡ o → merged rule (x ∷ xs) (y ∷ ys) ≡ gathered rule (by_ordering o (either.Left x ∷ items xs (y ∷ ys)) (either.Both x y ∷ items xs ys) (either.Right y ∷ items (x ∷ xs) ys))
    unrolled o is = sym (merged_items rule (x ∷ xs) (y ∷ ys)) ∙ ap (λ o. gathered rule (by_ordering o (either.Left x ∷ items xs (y ∷ ys)) (either.Both x y ∷ items xs ys) (either.Right y ∷ items (x ∷ xs) ys))) is

    on_less : key_cmp x.0 y.0 ≡ Less → merged rule (x ∷ xs) (y ∷ ys) ≡ with_content x.0 (rule (Some x.1) None) (merged rule xs (y ∷ ys))
    on_less is = unrolled Less is ∙ ap (with_content x.0 (rule (Some x.1) None)) (merged_items rule xs (y ∷ ys))

    on_equal : key_cmp x.0 y.0 ≡ Equal → merged rule (x ∷ xs) (y ∷ ys) ≡ with_content x.0 (rule (Some x.1) (Some y.1)) (merged rule xs ys)
    on_equal is = unrolled Equal is ∙ ap (with_content x.0 (rule (Some x.1) (Some y.1))) (merged_items rule xs ys)

    on_greater : key_cmp x.0 y.0 ≡ Greater → merged rule (x ∷ xs) (y ∷ ys) ≡ with_content y.0 (rule None (Some y.1)) (merged rule (x ∷ xs) ys)
    on_greater is = unrolled Greater is ∙ ap (with_content y.0 (rule None (Some y.1))) (merged_items rule (x ∷ xs) ys)

-- the triple of the least key, in a list
abbrev pub added : Side → List Triple → List Triple → List Triple
added side a b = option_to_list (next_merged side (slice_get a 0) (slice_get b 0))

-- one turn of a loop over both
pub record Turn (a b : List Triple) (side : Side) : Type 0 where
  pub joined : joins a b ≡ map_entries (added side a b) ++ joins (first_behind side a) (second_behind side b)
  pub one : length (added side a b) ≡ 1
  pub apart : clash side (slice_get a 0) (slice_get b 0) ≡ false → clashes a b ≡ clashes (first_behind side a) (second_behind side b)
  pub clashed : clash side (slice_get a 0) (slice_get b 0) ≡ true → is_empty (clashes a b) ≡ false
  pub less : length (first_behind side a) + length (second_behind side b) < length a + length b

-- of two triples of one key
module _ (x y : Triple) where
  chosen : (t : Bool) (es : List (List ℕ × AtPoint)) → x.key ≡ y.key → (x.key, cond t (entry_of y).1 (entry_of x).1) ∷ es ≡ map_entries (option_to_list (cond t (Some y) (Some x))) ++ es
  chosen true es same = ap (λ k. (k, (entry_of y).1) ∷ es) same
  chosen false es same = refl

  one_chosen : (t : Bool) → length (option_to_list (cond t (Some y) (Some x))) ≡ 1
  one_chosen true = refl
  one_chosen false = refl

none_with : (t : Bool) (key : List ℕ) (es : List (List ℕ × Unit {0})) → t ≡ false → with_content key (cond t (Some tt) None) es ≡ es
none_with true key es is = cc
none_with false key es is = refl

some_with : (t : Bool) (key : List ℕ) (es : List (List ℕ × Unit {0})) → t ≡ true → is_empty (with_content key (cond t (Some tt) None) es) ≡ false
some_with true key es is = refl
some_with false key es is = cc

turn_of : (x y : Triple) (a b : List Triple) (o : Ordering) → key_cmp x.key y.key ≡ o → Turn (x ∷ a) (y ∷ b) (lesser_side o)
turn_of x y a b Less is = record {
  joined = on_less later (entry_of x) (entry_of y) (map_entries a) (map_entries b) is;
  one = refl;
  apart = λ e. on_less clash_at (entry_of x) (entry_of y) (map_entries a) (map_entries b) is;
  clashed = λ e. cc;
  less = omega arith;
}
turn_of x y a b Equal is = record {
  joined = on_equal later (entry_of x) (entry_of y) (map_entries a) (map_entries b) is ∙ chosen x y (nat_lt x.point y.point) (joins a b) (key_order.exact x.key y.key is);
  one = one_chosen x y (nat_lt x.point y.point);
  apart = λ e. on_equal clash_at (entry_of x) (entry_of y) (map_entries a) (map_entries b) is ∙ none_with (differs (entry_of x).1 (Some (entry_of y).1)) x.key (clashes a b) e;
  clashed = λ e. ap is_empty (on_equal clash_at (entry_of x) (entry_of y) (map_entries a) (map_entries b) is) ∙ some_with (differs (entry_of x).1 (Some (entry_of y).1)) x.key (clashes a b) e;
  less = omega arith;
}
turn_of x y a b Greater is = record {
  joined = on_greater later (entry_of x) (entry_of y) (map_entries a) (map_entries b) is;
  one = refl;
  apart = λ e. on_greater clash_at (entry_of x) (entry_of y) (map_entries a) (map_entries b) is;
  clashed = λ e. cc;
  less = omega arith;
}

turns : (a b : List Triple) → MatchOption (least_side a b) ((a ≡ []) × (b ≡ [])) (Turn a b)
turns [] [] = (refl, refl)
turns (x ∷ a) [] = record {
  joined = first_alone later (entry_of x) (map_entries a);
  one = refl;
  apart = λ e. first_alone clash_at (entry_of x) (map_entries a);
  clashed = λ e. cc;
  less = omega arith;
}
turns [] (y ∷ b) = record {
  joined = second_alone later (entry_of y) (map_entries b);
  one = refl;
  apart = λ e. second_alone clash_at (entry_of y) (map_entries b);
  clashed = λ e. cc;
  less = omega arith;
}
turns (x ∷ a) (y ∷ b) = turn_of x y a b (key_cmp x.key y.key) refl

pub turn : (a b : List Triple) (side : Side) → least_side a b ≡ Some side → Turn a b side
turn a b side is = subst (λ o. MatchOption o ((a ≡ []) × (b ≡ [])) (Turn a b)) is (turns a b)

both_done : (a b : List Triple) → least_side a b ≡ None → (a ≡ []) × (b ≡ [])
both_done a b is = subst (λ o. MatchOption o ((a ≡ []) × (b ≡ [])) (Turn a b)) is (turns a b)

joins_none : (a b : List Triple) → least_side a b ≡ None → joins a b ≡ []
joins_none a b is = let none = both_done a b is in rw (none.0, none.1) (sym (merged_items later [] []))

clashes_none : (a b : List Triple) → least_side a b ≡ None → clashes a b ≡ []
clashes_none a b is = let none = both_done a b is in rw (none.0, none.1) (sym (merged_items clash_at [] []))

-- What the loop that counts keeps: no clash so far, and how many keys were passed.
pub record Counted (a b first second : List Triple) (len : ℕ) : Type 0 where
  pub counts : len + length (joins first second) ≡ length (joins a b)
  pub apart : clashes first second ≡ clashes a b
  pub within : len + length first + length second ≤ length a + length b

pub none_counted : (a b first second : List Triple) → first ≡ a → second ≡ b → Counted a b first second 0
none_counted a b first second is_a is_b = rw (is_a, is_b) (record { counts = omega arith; apart = refl; within = omega arith })

module _ (a b first second : List Triple) (len : ℕ) (so_far : Counted a b first second len) where
  module _ (side : Side) (is : least_side first second ≡ Some side) where
    pub count_one : (new_first new_second : List Triple) → clash side (slice_get first 0) (slice_get second 0) ≡ false → new_first ≡ first_behind side first → new_second ≡ second_behind side second → Counted a b new_first new_second (len + 1)
    count_one new_first new_second fine goes too = let t = turn first second side is in rw (goes, too) (record {
      counts = let all = ap length t.joined ∙ length-append (map_entries (added side first second)) _ in let same = length-map (added side first second) entry_of in let one = t.one in let so = so_far.counts in omega (arith, all, same, one, so);
      apart = sym (t.apart fine) ∙ so_far.apart;
      within = let less = t.less in let so = so_far.within in omega (arith, less, so);
    })

    pub stops : clash side (slice_get first 0) (slice_get second 0) ≡ true → is_empty (clashes a b) ≡ false
    stops clash = ap is_empty (sym so_far.apart) ∙ (turn first second side is).clashed clash

  pub ends : least_side first second ≡ None → (is_empty (clashes a b) ≡ true) × (len ≡ length (joins a b))
  ends none = (ap is_empty (sym so_far.apart ∙ clashes_none first second none), let h = so_far.counts in let nothing = ap length (joins_none first second none) in omega (arith, h, nothing))

-- one more triple is merged, and all of them
module _ (a b first second out : List Triple) (so_far : map_entries out ++ joins first second ≡ joins a b) where
  pub one_merged : (side : Side) (new_first new_second new : List Triple) → least_side first second ≡ Some side → new_first ≡ first_behind side first → new_second ≡ second_behind side second → new ≡ out ++ added side first second → map_entries new ++ joins new_first new_second ≡ joins a b
  one_merged side new_first new_second new is goes too put = rw (goes, too, put)
      (ap (λ es. es ++ joins (first_behind side first) (second_behind side second)) (map-append entry_of out (added side first second)) ∙ append_assoc (map_entries out) (map_entries (added side first second)) _
      ∙ ap (λ es. map_entries out ++ es) (sym (turn first second side is).joined) ∙ so_far)

  pub all_merged : least_side first second ≡ None → map_entries out ≡ joins a b
  all_merged none = sym (append-nil (map_entries out)) ∙ ap (λ es. map_entries out ++ es) (sym (joins_none first second none)) ∙ so_far
