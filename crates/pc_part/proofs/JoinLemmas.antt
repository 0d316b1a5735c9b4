-- Laws of the join, key by key.
use Rattle.std.proofs.Common.{◌≡◌, ℕ, Bool, true, false, cond, not, ◌&&◌, ◌||◌, ◌==◌, nat_lt, List, Option, Some, None, refl, sym, ap, ◌∙◌, arith}
use Rattle.std.specs.Prelude.{⊤}
use Rattle.std.specs.Cmp.{eq_by_cmp_equiv}
use Rattle.std.proofs.lemmas.Bool.Decides.{nat_tests}
use Rattle.std.proofs.lemmas.Bool.{ltb-true, ltb-false}
use Rattle.pc_model.specs.Maps.{get}
use Rattle.pc_model.specs.Sets as set
use Rattle.pc_model.specs.Sets.{Set, number_order}
use Rattle.pc_model.specs.Database.{key_order}
use Rattle.pc_model.specs.Points.{AtPoint, Triples, newer, later, joined}
use Rattle.pc_model.specs.Files.{conflict, differs, same_content}
use Rattle.pc_model.proofs.MapLaws.{get-entries, same_map}
use Rattle.pc_model.proofs.SetLaws.{same_set}
use Rattle.pc_model.proofs.PairMapLaws.{tested}
use Rattle.pc_model.proofs.JoinLaws.{get-joined, one_key}
use Rattle.pc_part.specs.Joins.{clash_at, JoinsCommute, JoinsAreIdempotent, JoinsAssociate, ConflictsAreMutual, JoinsMakeNoConflict}
use Rattle.pc_part.proofs.JoinedFiles.{none_differs, some_differs}
use Rattle.pc_part.proofs.RangeUnions.{contains-union}

-- ---- conflict as the entries at each key

clash_value : (x y : Option AtPoint) (t : Bool) → (clash_at x y ≡ Some (tt {0}) → t ≡ true) → t ≡ false → clash_at x y ≡ None
clash_value x y t some none = by (clash_at x y) refl
  where
    by : (v : Option ⊤) → clash_at x y ≡ v → clash_at x y ≡ None
    by None e = e
    by (Some u) e = let is : t ≡ true = some (e ∙ ap (λ (u : ⊤). Some u) refl) in let bad : true ≡ false = sym is ∙ none in absurd cc

no_clash_at : (m n : Triples) → conflict m n ≡ false → (q : List ℕ) → clash_at (get m q) (get n q) ≡ None
no_clash_at m n none q = clash_value (get m q) (get n q) (conflict m n) (λ some. some_differs (get n) m.entries q (ap (λ x. clash_at x (get n q)) (sym (get-entries m q)) ∙ some)) none

no_conflict : (m n : Triples) → ((q : List ℕ) → clash_at (get m q) (get n q) ≡ None) → conflict m n ≡ false
no_conflict m n none = none_differs (get n) m.entries (tested m.rises) (λ q. ap (λ x. clash_at x (get n q)) (sym (get-entries m q)) ∙ none q)

-- ---- two contents at one point

same_content_turned : (c d : Option (List ℕ)) → same_content c d ≡ same_content d c
same_content_turned None None = refl
same_content_turned None (Some w) = refl
same_content_turned (Some v) None = refl
same_content_turned (Some v) (Some w) = (eq_by_cmp_equiv key_order.total).symm v w

same_content_is : (c d : Option (List ℕ)) → same_content c d ≡ true → c ≡ d
same_content_is None None e = refl
same_content_is None (Some w) e = cc
same_content_is (Some v) None e = cc
same_content_is (Some v) (Some w) e = ap (λ (k : List ℕ). Some k) (one_key v w e)

differs_turned : (a b : AtPoint) → differs a (Some b) ≡ differs b (Some a)
differs_turned a b = ap (λ s. (a.point == b.point) && not s) (same_content_turned a.content b.content) ∙ ap (λ p. p && not (same_content b.content a.content)) turned
  where
    turned : (a.point == b.point) ≡ (b.point == a.point)
    turned = grind (arith, nat_tests)

clash_turned : (x y : Option AtPoint) → clash_at x y ≡ clash_at y x
clash_turned None None = refl
clash_turned None (Some b) = refl
clash_turned (Some a) None = refl
clash_turned (Some a) (Some b) = ap (λ t. cond t (Some (tt {0})) None) (differs_turned a b)

same_at : (a b : AtPoint) → a.point ≡ b.point → a.content ≡ b.content → a ≡ b
same_at a b p c = λ i. record { point = p i; content = c i }

-- ---- the later of two

later_commutes : (x y : Option AtPoint) → clash_at x y ≡ None → later x y ≡ later y x
later_commutes None None none = refl
later_commutes None (Some b) none = refl
later_commutes (Some a) None none = refl
later_commutes (Some a) (Some b) none = ap (λ (t : AtPoint). Some t) (by (nat_lt a.point b.point) (nat_lt b.point a.point) refl refl (differs a (Some b)) refl none)
  where
    same_value : (p c : Bool) → (p && not c) ≡ false → p ≡ true → c ≡ true
    same_value true true e h = refl
    same_value true false e h = cc
    same_value false c e h = cc

    by : (s t : Bool) → nat_lt a.point b.point ≡ s → nat_lt b.point a.point ≡ t → (d : Bool) → differs a (Some b) ≡ d → cond d (Some (tt {0})) None ≡ None → cond s b a ≡ cond t a b
    by true true p q d e h = let l = ltb-true a.point b.point p in let m = ltb-true b.point a.point q in absurd (omega arith)
    by true false p q d e h = refl
    by false true p q d e h = refl
    by false false p q true e h = cc
    by false false p q false e h =
        let l = ltb-false a.point b.point p in
        let m = ltb-false b.point a.point q in
        let same : a.point ≡ b.point = omega arith in
        let test : (a.point == b.point) ≡ true = grind (arith, nat_tests) in
        same_at a b same (same_content_is a.content b.content (same_value (a.point == b.point) (same_content a.content b.content) e test))

later_itself : (x : Option AtPoint) → later x x ≡ x
later_itself None = refl
later_itself (Some a) = by (nat_lt a.point a.point)
  where
    by : (t : Bool) → Some (cond t a a) ≡ Some a
    by true = refl
    by false = refl

later_associates : (x y z : Option AtPoint) → later (later x y) z ≡ later x (later y z)
later_associates x y None = refl
later_associates x None (Some c) = refl
later_associates None (Some b) (Some c) = refl
later_associates (Some a) (Some b) (Some c) = ap (λ (t : AtPoint). Some t) (by (nat_lt a.point b.point) (nat_lt b.point c.point) (nat_lt a.point c.point) refl refl refl)
  where
    by : (s t u : Bool) → nat_lt a.point b.point ≡ s → nat_lt b.point c.point ≡ t → nat_lt a.point c.point ≡ u → newer (Some (cond s b a)) c ≡ newer (Some a) (cond t c b)
    by true true true p q r = rw (q, r) refl
    by true true false p q r = let l = ltb-true a.point b.point p in let m = ltb-true b.point c.point q in let n = ltb-false a.point c.point r in absurd (omega arith)
    by true false u p q r = rw (q, p) refl
    by false true true p q r = rw r refl
    by false true false p q r = rw r refl
    by false false true p q r = let l = ltb-false a.point b.point p in let m = ltb-false b.point c.point q in let n = ltb-true a.point c.point r in absurd (omega arith)
    by false false false p q r = rw (r, p) refl

clash_later : (x y z : Option AtPoint) → clash_at x z ≡ None → clash_at y z ≡ None → clash_at (later x y) z ≡ None
clash_later x None z p q = p
clash_later None (Some b) z p q = q
clash_later (Some a) (Some b) z p q = by (nat_lt a.point b.point)
  where
    by : (t : Bool) → clash_at (Some (cond t b a)) z ≡ None
    by true = q
    by false = p

-- ---- the union of points

or_comm : (a b : Bool) → (a || b) ≡ (b || a)
or_comm true true = refl
or_comm true false = refl
or_comm false true = refl
or_comm false false = refl

or_itself : (a : Bool) → (a || a) ≡ a
or_itself true = refl
or_itself false = refl

or_assoc : (a b c : Bool) → ((a || b) || c) ≡ (a || (b || c))
or_assoc true b c = refl
or_assoc false b c = refl

union_commutes : (s t : Set number_order) → set.union s t ≡ set.union t s
union_commutes s t = same_set _ _ (λ q. contains-union s t q ∙ or_comm (set.contains s q) (set.contains t q) ∙ sym (contains-union t s q))

union_itself : (s : Set number_order) → set.union s s ≡ s
union_itself s = same_set _ _ (λ q. contains-union s s q ∙ or_itself (set.contains s q))

union_associates : (s t u : Set number_order) → set.union (set.union s t) u ≡ set.union s (set.union t u)
union_associates s t u = same_set _ _ (λ q. contains-union (set.union s t) u q ∙ ap (λ b. b || set.contains u q) (contains-union s t q) ∙ or_assoc (set.contains s q) (set.contains t q) (set.contains u q)
    ∙ ap (λ b. set.contains s q || b) (sym (contains-union t u q)) ∙ sym (contains-union s (set.union t u) q))

-- ---- the laws

joined_associates : (m n o : Triples) → joined (joined m n) o ≡ joined m (joined n o)
joined_associates m n o = same_map _ _ (λ q. get-joined (joined m n) o q ∙ ap (λ x. later x (get o q)) (get-joined m n q) ∙ later_associates (get m q) (get n q) (get o q)
    ∙ ap (later (get m q)) (sym (get-joined n o q)) ∙ sym (get-joined m (joined n o) q))

pub joins_commute : JoinsCommute
joins_commute a b run none i = record {
  run = run i;
  points = union_commutes a.points b.points i;
  triples = same_map (joined a.triples b.triples) (joined b.triples a.triples) (λ q. get-joined a.triples b.triples q
      ∙ later_commutes (get a.triples q) (get b.triples q) (no_clash_at a.triples b.triples none q) ∙ sym (get-joined b.triples a.triples q)) i;
}

pub joins_are_idempotent : JoinsAreIdempotent
joins_are_idempotent a i = record {
  run = a.run;
  points = union_itself a.points i;
  triples = same_map (joined a.triples a.triples) a.triples (λ q. get-joined a.triples a.triples q ∙ later_itself (get a.triples q)) i;
}

pub joins_associate : JoinsAssociate
joins_associate a b c i = record {
  run = a.run;
  points = union_associates a.points b.points c.points i;
  triples = joined_associates a.triples b.triples c.triples i;
}

pub conflicts_are_mutual : ConflictsAreMutual
conflicts_are_mutual a b = by (conflict a.triples b.triples) (conflict b.triples a.triples) refl refl
  where
    turned : (m n : Triples) → conflict m n ≡ false → conflict n m ≡ false
    turned m n none = no_conflict n m (λ q. clash_turned (get n q) (get m q) ∙ no_clash_at m n none q)

    by : (s t : Bool) → conflict a.triples b.triples ≡ s → conflict b.triples a.triples ≡ t → conflict a.triples b.triples ≡ conflict b.triples a.triples
    by true true p q = p ∙ sym q
    by true false p q = turned b.triples a.triples q ∙ sym q
    by false true p q = p ∙ sym (turned a.triples b.triples p)
    by false false p q = p ∙ sym q

pub joins_make_no_conflict : JoinsMakeNoConflict
joins_make_no_conflict a b c p q = no_conflict (joined a.triples b.triples) c.triples (λ k.
    ap (λ x. clash_at x (get c.triples k)) (get-joined a.triples b.triples k) ∙ clash_later (get a.triples k) (get b.triples k) (get c.triples k) (no_clash_at a.triples c.triples p k) (no_clash_at b.triples c.triples q k))
