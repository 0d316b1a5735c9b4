-- The union of ranges, gone through by their first points.
use Rattle.std.proofs.Common.{◌≡◌, ℕ, ◌+◌, ◌≤◌, ◌||◌, nat_le, max, get_or, Bool, true, false, List, [], ◌∷◌, ◌++◌, length, map, Bor, append_assoc, is_some, Option, Some, cond, if◌then◌else◌, refl, sym, ap, ◌∙◌, arith}
use Rattle.std.specs.Prelude.{⊤}
use Rattle.std.specs.List.{list_any}
use Rattle.std.specs.Ordering.{nat_cmp, eq_by_cmp}
use Rattle.std.proofs.lemmas.Bool.Decides.{nat_tests}
use Rattle.pc_model.specs.Maps as map_of
use Rattle.pc_model.specs.Sets as set
use Rattle.pc_model.specs.Sets.{Set, number_order}
use Rattle.pc_model.proofs.MapLaws.{get-insert}
use Rattle.pc_model.proofs.SetLaws.{same_set}
use Rattle.pc_part.specs.declared.ranges.Range.{Range}
use Rattle.pc_types.specs.declared.Triple.{Triple}
use Rattle.pc_part.specs.Parts.{points_of, AreCovered, RangesFrom, AreRanges}
use Rattle.pc_part.specs.Unions.{meets, widened, with_range_after}
use Rattle.itertools.specs.List.{merge_by}
use Rattle.itertools.specs.Adaptor.{EachRunBehindBoth, EndsWithBoth, GivesOfBoth}
use Rattle.itertools.proofs.TwoLemmas.{YieldsList-from_gives_of_both_refs}
use Rattle.std.specs.Iterator.Order.{ActsAsAtTwo}
use Rattle.std.proofs.lemmas.Iterator.{YieldsList}
use denote.Param.Members.{Mut}
use Rattle.pc_part.proofs.RangePointLaws.{contains-points_of, has_point, have_point, contains-items}

abbrev now : Bor Range → Range
now r = r.now

-- ranges that ascend from a point ascend from each lesser one, and from each that their first is not below
lower : (least less : ℕ) (ranges : List Range) → less ≤ least → RangesFrom least ranges → RangesFrom less ranges
lower least less [] le h = tt
lower least less (r ∷ ranges) le h = let low : least ≤ r.low = h.0 in (omega arith, h.1, h.2, h.3)

-- ranges that begin each no lower than the one before, the first at this point or above
abbrev pub BeginFrom : ℕ → List Range → Type 0
BeginFrom least [] = ⊤
BeginFrom least (r ∷ ranges) = (least ≤ r.low) × (r.low ≤ r.high) × (r.high ≤ 65535) × BeginFrom r.low ranges

begin_lower : (least less : ℕ) (ranges : List Range) → less ≤ least → BeginFrom least ranges → BeginFrom less ranges
begin_lower least less [] le h = tt
begin_lower least less (r ∷ ranges) le h = let low : least ≤ r.low = h.0 in (omega arith, h.1, h.2, h.3)

begins : (least : ℕ) (ranges : List Range) → RangesFrom least ranges → BeginFrom least ranges
begins least [] h = tt
begins least (r ∷ ranges) h = let ends : r.low ≤ r.high = h.1 in (h.0, h.1, h.2, begin_lower (r.high + 2) r.low ranges (omega arith) (begins (r.high + 2) ranges h.3))

or_assoc : (a b c : Bool) → ((a || b) || c) ≡ (a || (b || c))
or_assoc true b c = refl
or_assoc false b c = refl

or_swap : (a b c : Bool) → (a || (b || c)) ≡ (b || (a || c))
or_swap true true c = refl
or_swap true false c = refl
or_swap false b c = refl

or_false : (b : Bool) → (b || false) ≡ b
or_false true = refl
or_false false = refl

-- the ranges of two lists by their first points
abbrev pub is_first : Range → Range → Bool
is_first x y = nat_le x.low y.low

abbrev pub by_low : List Range → List Range → List Range
by_low = merge_by is_first

-- they begin each no lower than the one before
begin_at : (x : Range) (xs : List Range) → ((ys : List Range) → BeginFrom x.low ys → BeginFrom x.low (by_low xs ys)) → (least : ℕ) → least ≤ x.low → x.low ≤ x.high → x.high ≤ 65535 → BeginFrom x.low xs → (ys : List Range) → BeginFrom least ys
    → BeginFrom least (by_low (x ∷ xs) ys)
begin_at x xs again least from ends limit rest [] from_right = (from, ends, limit, rest)
begin_at x xs again least from ends limit rest (y ∷ ys) from_right = by (λ less. begin_at x xs again y.low less ends limit rest ys from_right.3) (is_first x y) refl
  where
    by : (y.low ≤ x.low → BeginFrom y.low (by_low (x ∷ xs) ys)) → (b : Bool) → is_first x y ≡ b → BeginFrom least (if b then x ∷ by_low xs (y ∷ ys) else y ∷ by_low (x ∷ xs) ys)
    by later true is = (from, ends, limit, again (y ∷ ys) (grind (arith, nat_tests, is), from_right.1, from_right.2, from_right.3))
    by later false is = (from_right.0, from_right.1, from_right.2, later (grind (arith, nat_tests, is)))

begin_by_low : (xs ys : List Range) (least : ℕ) → BeginFrom least xs → BeginFrom least ys → BeginFrom least (by_low xs ys)
begin_by_low [] ys least from_left from_right = from_right
begin_by_low (x ∷ xs) ys least from_left from_right = begin_at x xs (λ zs from. begin_by_low xs zs x.low from_left.3 from) least from_left.0 from_left.1 from_left.2 from_left.3 ys from_right

-- they have the points of both lists
have_at : (q : ℕ) (x : Range) (xs : List Range) → ((ys : List Range) → have_point (by_low xs ys) q ≡ (have_point xs q || have_point ys q)) → (ys : List Range) → have_point (by_low (x ∷ xs) ys) q ≡ (have_point (x ∷ xs) q || have_point ys q)
have_at q x xs again [] = sym (or_false (have_point (x ∷ xs) q))
have_at q x xs again (y ∷ ys) = by (is_first x y) (have_at q x xs again ys)
  where
    by : (b : Bool) → have_point (by_low (x ∷ xs) ys) q ≡ (have_point (x ∷ xs) q || have_point ys q) → have_point (if b then x ∷ by_low xs (y ∷ ys) else y ∷ by_low (x ∷ xs) ys) q ≡ (have_point (x ∷ xs) q || have_point (y ∷ ys) q)
    by true later = ap (λ t. has_point x q || t) (again (y ∷ ys)) ∙ sym (or_assoc (has_point x q) (have_point xs q) (have_point (y ∷ ys) q))
    by false later = ap (λ t. has_point y q || t) later ∙ or_swap (has_point y q) (have_point (x ∷ xs) q) (have_point ys q)

have_by_low : (q : ℕ) (xs ys : List Range) → have_point (by_low xs ys) q ≡ (have_point xs q || have_point ys q)
have_by_low q [] ys = refl
have_by_low q (x ∷ xs) ys = have_at q x xs (have_by_low q xs) ys

-- where the last of the ranges begins, or this point if there are none
abbrev pub last_low : ℕ → List Range → ℕ
last_low least [] = least
last_low least (r ∷ ranges) = last_low r.low ranges

-- ranges with one more that begins no lower than the last: they ascend, none begins above it, and they have its points
-- too
record IsWith (least : ℕ) (ranges : List Range) (range : Range) (all : List Range) : Type 0 where
  rise : RangesFrom least all
  lows : last_low least all ≤ range.low
  has : (q : ℕ) → have_point all q ≡ (have_point ranges q || has_point range q)

with_one : (least : ℕ) (last range : Range) → least ≤ last.low → last.low ≤ last.high → last.high ≤ 65535 → last.low ≤ range.low → range.low ≤ range.high → range.high ≤ 65535 → IsWith least (last ∷ []) range (with_range_after (last ∷ []) range)
with_one least last range from ends limit after range_ends range_limit = by (meets last range) refl
  where
    as_one : (q : ℕ) → meets last range ≡ true → has_point (widened last range) q ≡ (has_point last q || has_point range q)
    as_one q is = grind (arith, nat_tests, is, ends, after, range_ends)

    by : (b : Bool) → meets last range ≡ b → IsWith least (last ∷ []) range (if b then widened last range ∷ [] else last ∷ range ∷ [])
    by true is = record { rise = (from, omega arith, omega arith, tt); lows = after; has = λ q. or_false (has_point (widened last range) q) ∙ as_one q is ∙ ap (λ t. t || has_point range q) (sym (or_false (has_point last q))) }
    by false is = record { rise = (from, ends, limit, (grind (arith, nat_tests, is), range_ends, range_limit, tt)); lows = omega arith; has = λ q. ap (λ t. has_point last q || t) (or_false (has_point range q)) ∙ ap (λ t. t || has_point range q) (sym (or_false (has_point last q))) }

with_more : (least : ℕ) (ranges : List Range) (range : Range) → RangesFrom least ranges → last_low least ranges ≤ range.low → range.low ≤ range.high → range.high ≤ 65535 → IsWith least ranges range (with_range_after ranges range)
with_more least [] range rise after ends limit = record { rise = (after, ends, limit, tt); lows = omega arith; has = λ q. or_false (has_point range q) }
with_more least (last ∷ []) range rise after ends limit = with_one least last range rise.0 rise.1 rise.2 after ends limit
with_more least (first ∷ second ∷ ranges) range rise after ends limit =
    let rest = with_more (first.high + 2) (second ∷ ranges) range rise.3 after ends limit in
    record {
      rise = (rise.0, rise.1, rise.2, rest.rise);
      lows = lows_of (with_range_after (second ∷ ranges) range) (some ranges) rest.lows;
      has = λ q. ap (λ t. has_point first q || t) (rest.has q) ∙ sym (or_assoc (has_point first q) (have_point (second ∷ ranges) q) (has_point range q));
    }
  where
    some : (ranges : List Range) → ¬ (with_range_after (second ∷ ranges) range ≡ [])
    some [] none = by (meets second range) none
      where
        by : (b : Bool) → (if b then widened second range ∷ [] else second ∷ range ∷ []) ≡ [] → ⊥
        by true e = cc
        by false e = cc
    some (r ∷ rs) none = cc

    lows_of : (all : List Range) → ¬ (all ≡ []) → last_low (first.high + 2) all ≤ range.low → last_low first.low all ≤ range.low
    lows_of [] not_none le = absurd (not_none refl)
    lows_of (r ∷ rs) not_none le = le

-- What the loop that unites keeps: the ranges so far ascend, those to come begin no lower than the last of them, and
-- together they have the points of both lists.
pub record Uniting (a b out rest : List Range) : Type 0 where
  pub rise : RangesFrom 1 out
  pub from : BeginFrom (last_low 1 out) rest
  pub same : (q : ℕ) → (have_point out q || have_point rest q) ≡ (have_point a q || have_point b q)

pub none_united : (a b : List Range) → AreRanges a → AreRanges b → Uniting a b [] (by_low a b)
none_united a b in_a in_b = record { rise = tt; from = begin_by_low a b 1 (begins 1 a in_a.1) (begins 1 b in_b.1); same = λ q. have_by_low q a b }

pub one_united : (a b out rest : List Range) (range : Range) (new : List Range) → Uniting a b out (range ∷ rest) → new ≡ with_range_after out range → Uniting a b new rest
one_united a b out rest range new before is = rw is (
    let next = with_more 1 out range before.rise before.from.0 before.from.1 before.from.2 in
    record {
      rise = next.rise;
      from = begin_lower range.low _ rest next.lows before.from.3;
      same = λ q. ap (λ t. t || have_point rest q) (next.has q) ∙ or_assoc (have_point out q) (has_point range q) (have_point rest q) ∙ before.same q;
    })

-- the union of sets
contains-insert_all : (s : Set number_order) (ks : List ℕ) (q : ℕ) → set.contains (set.insert_all s ks) q ≡ (list_any (eq_by_cmp nat_cmp q) ks || set.contains s q)
contains-insert_all s [] q = refl
contains-insert_all s (k ∷ ks) q = ap is_some (get-insert (set.insert_all s ks) k tt q) ∙ put_or (eq_by_cmp nat_cmp q k) (map_of.get (set.insert_all s ks) q) ∙ ap (λ t. eq_by_cmp nat_cmp q k || t) (contains-insert_all s ks q) ∙ sym (or_assoc (eq_by_cmp nat_cmp q k) (list_any (eq_by_cmp nat_cmp q) ks) (set.contains s q))
  where
    put_or : (b : Bool) (x : Option ⊤) → is_some (cond b (Some (tt {0})) x) ≡ (b || is_some x)
    put_or true x = refl
    put_or false x = refl

pub contains-union : (s t : Set number_order) (q : ℕ) → set.contains (set.union s t) q ≡ (set.contains s q || set.contains t q)
contains-union s t q = contains-insert_all s (set.items t) q ∙ ap (λ b. b || set.contains s q) (contains-items t q) ∙ or_comm (set.contains t q) (set.contains s q)
  where
    or_comm : (a b : Bool) → (a || b) ≡ (b || a)
    or_comm true true = refl
    or_comm true false = refl
    or_comm false true = refl
    or_comm false false = refl

-- ranges that have the points of two lists of ranges represent the union
pub is_union : (a b out : List Range) → ((q : ℕ) → have_point out q ≡ (have_point a q || have_point b q)) → points_of out ≡ set.union (points_of a) (points_of b)
is_union a b out same = same_set (points_of out) (set.union (points_of a) (points_of b)) (λ q. contains-points_of out q ∙ same q
    ∙ ap (λ t. t || have_point b q) (sym (contains-points_of a q)) ∙ ap (λ t. set.contains (points_of a) q || t) (sym (contains-points_of b q))
    ∙ sym (contains-union (points_of a) (points_of b) q))

-- the loop's end
pub all_united : (a b out : List Range) → AreRanges a → Uniting a b out [] → AreRanges out × (points_of out ≡ set.union (points_of a) (points_of b))
all_united a b out in_a before = ((some a out in_a before.same, before.rise), is_union a b out (λ q. sym (or_false (have_point out q)) ∙ before.same q))
  where
    no : false ≡ true → 1 ≤ 0
    no e = cc

    some : (a out : List Range) → AreRanges a → ((q : ℕ) → (have_point out q || false) ≡ (have_point a q || have_point b q)) → 1 ≤ length out
    some [] out in_a same = let none : 1 ≤ 0 = in_a.0 in omega (arith, none)
    some (r ∷ rs) [] in_a same =
        let has : has_point r r.low ≡ true = let ends : r.low ≤ r.high = in_a.1.1 in grind (arith, nat_tests, ends) in
        let all : false ≡ ((has_point r r.low || have_point rs r.low) || have_point b r.low) = same r.low in
        no (rw has at all)
    some (r ∷ rs) (o ∷ out) in_a same = omega arith

-- what is added after the last range
with_last : (front : List Range) (last range : Range) → with_range_after (front ++ last ∷ []) range ≡ front ++ (if meets last range then widened last range ∷ [] else last ∷ range ∷ [])
with_last [] last range = refl
with_last (f ∷ []) last range = refl
with_last (f ∷ g ∷ front) last range = ap (λ rs. f ∷ rs) (with_last (g ∷ front) last range)

module _ (old front new : List Range) (last range : Range) (parted : old ≡ front ++ last ∷ []) where
  -- the last range is widened
  pub widens : (wide : Range) → meets last range ≡ true → wide.low ≡ last.low → wide.high ≡ max last.high range.high → new ≡ front ++ wide ∷ [] → new ≡ with_range_after old range
  widens wide met low high put = rw (put, parted, with_last front last range, met) (ap (λ r. front ++ r ∷ []) (same wide (widened last range) low high))
    where
      range_of : ℕ → ℕ → Range
      range_of low high = record { low = low; high = high }

      same : (r s : Range) → r.low ≡ s.low → r.high ≡ s.high → r ≡ s
      same r s low high = ap (λ l. range_of l r.high) low ∙ ap (range_of s.low) high

  -- the range comes after it
  pub stands_behind : (all : List Range) → meets last range ≡ false → all ≡ front ++ last ∷ [] → new ≡ all ++ range ∷ [] → new ≡ with_range_after old range
  stands_behind all met put put_too = rw (put_too, put, parted, with_last front last range, met) (append_assoc front (last ∷ []) (range ∷ []))

-- an iterator over both lists by the first points gives the ranges, in order
abbrev pub is_first_of : Bor Range → Bor Range → Bool
is_first_of x y = is_first x.now y.now

values_at : (u : Bor Range) (us : List (Bor Range)) → ((vs : List (Bor Range)) → map now (merge_by is_first_of us vs) ≡ by_low (map now us) (map now vs)) → (vs : List (Bor Range))
    → map now (merge_by is_first_of (u ∷ us) vs) ≡ by_low (map now (u ∷ us)) (map now vs)
values_at u us again [] = refl
values_at u us again (v ∷ vs) = by (is_first_of u v) (values_at u us again vs)
  where
    by : (b : Bool) → map now (merge_by is_first_of (u ∷ us) vs) ≡ by_low (map now (u ∷ us)) (map now vs)
        → map now (if b then u ∷ merge_by is_first_of us (v ∷ vs) else v ∷ merge_by is_first_of (u ∷ us) vs) ≡ (if b then u.now ∷ by_low (map now us) (map now (v ∷ vs)) else v.now ∷ by_low (map now (u ∷ us)) (map now vs))
    by true later = ap (λ l. u.now ∷ l) (again (v ∷ vs))
    by false later = ap (λ l. v.now ∷ l) later

values_are : (us vs : List (Bor Range)) → map now (merge_by is_first_of us vs) ≡ by_low (map now us) (map now vs)
values_are [] vs = refl
values_are (u ∷ us) vs = values_at u us (values_are us) vs

pub ranges_given : {S T U F : Type 0} {steps : U → Option (Bor Range) → U → Type 0} {firsts : S → Option (Bor Range) → S → Type 0} {seconds : T → Option (Bor Range) → T → Type 0} {s t : U} {x : S} {y : T} {xs ys : List Range}
    (call : Mut F (Bor (Bor Range) × (Bor (Bor Range) × ⊤)) Bool) (compare : F) → t ≡ s
    → EachRunBehindBoth steps s firsts x seconds y (λ p a b. EndsWithBoth p a b × ((h : Bor Range → Bor Range → Bool) → ActsAsAtTwo call compare h → GivesOfBoth p a b (merge_by h)))
    → ActsAsAtTwo call compare is_first_of → YieldsList firsts now x xs → YieldsList seconds now y ys → YieldsList steps now t (by_low xs ys)
ranges_given {steps = steps} {s = s} {xs = xs} {ys = ys} call compare same runs acts road road' =
    let given : YieldsList steps now s (by_low xs ys) = YieldsList-from_gives_of_both_refs now (merge_by is_first_of) by_low values_are
    (λ p on at. let r = runs p on at in (r.0, r.1, (r.2.0, r.2.1, r.2.2.1 is_first_of acts))) road road' in
    rw same given

-- triples of points of a set are of points of each union with it
contains_more : (a b t : Bool) → a ≡ (b || t) → b ≡ true → a ≡ true
contains_more a true t e h = e
contains_more a false t e h = cc

contains_more_right : (a b t : Bool) → a ≡ (b || t) → t ≡ true → a ≡ true
contains_more_right a true t e h = e
contains_more_right a false t e h = e ∙ h

pub covered_left : (s t u : Set number_order) (triples : List Triple) → u ≡ set.union s t → AreCovered s triples → AreCovered u triples
covered_left s t u triples is covered = rw is (λ k d lt. contains_more _ _ _ (contains-union s t (get_or triples k d).point) (covered k d lt))

pub covered_right : (s t u : Set number_order) (triples : List Triple) → u ≡ set.union s t → AreCovered t triples → AreCovered u triples
covered_right s t u triples is covered = rw is (λ k d lt. contains_more_right _ _ _ (contains-union s t (get_or triples k d).point) (covered k d lt))
