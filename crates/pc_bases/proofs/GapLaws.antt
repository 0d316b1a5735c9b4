-- The greatest point of ranges, and the first gap in them.
use Rattle.std.proofs.Common.{◌≡◌, ℕ, zero, suc, ◌+◌, ◌-◌, ◌≤◌, ◌<◌, ◌||◌, nat_le, nat_lt, max, Bool, true, false, cond, not, List, [], ◌∷◌, ◌++◌, length, drop, get_or, Option, Some, None, ◌⊎◌, inl, inr, refl, sym, ap, ◌∙◌, arith, drop-cons, lt-ltb}
use Rattle.std.specs.Prelude.{fold, slice_get}
use Rattle.std.specs.List.{list_any, find}
use Rattle.std.specs.Ordering.{nat_cmp, eq_by_cmp}
use Rattle.std.specs.Cmp.{unsigned_tied}
use Rattle.std.proofs.lemmas.Bool.Decides.{nat_tests}
use Rattle.std.proofs.lemmas.Bool.{ltb-true, ltb-false}
use Rattle.std.proofs.lemmas.List.{drop_all}
use Rattle.pc_model.specs.Sets as set
use Rattle.pc_model.specs.Sets.{Set, number_order}
use Rattle.pc_model.specs.Files.{numbers_to}
use Rattle.pc_model.specs.LaidFiles.{greatest, gap_above}
use Rattle.pc_part.specs.declared.ranges.Range.{Range}
use Rattle.pc_part.specs.Parts.{points_from, points_of, RangesFrom}
use Rattle.pc_part.proofs.RangePointLaws.{contains-points_of, has_point, have_point, contains-items}

-- the greatest point of ranges
abbrev pub top : List Range → ℕ
top [] = 0
top (r ∷ ranges) = max r.high (top ranges)

-- the greatest of numbers is not below them, and one of them or 0
fold_max_start : (a : ℕ) (xs : List ℕ) → a ≤ fold max a xs
fold_max_start a [] = omega arith
fold_max_start a (x ∷ xs) = let h = fold_max_start (max a x) xs in omega (arith, h)

fold_max_bound : (a q : ℕ) (xs : List ℕ) → list_any (eq_by_cmp nat_cmp q) xs ≡ true → q ≤ fold max a xs
fold_max_bound a q [] among = cc
fold_max_bound a q (x ∷ xs) among = by (eq_by_cmp nat_cmp q x) refl among (λ h. fold_max_bound (max a x) q xs h)
  where
    by : (t : Bool) → eq_by_cmp nat_cmp q x ≡ t → (t || list_any (eq_by_cmp nat_cmp q) xs) ≡ true → (list_any (eq_by_cmp nat_cmp q) xs ≡ true → q ≤ fold max (max a x) xs) → q ≤ fold max (max a x) xs
    by true same h again = let tie = sym (unsigned_tied q x) ∙ same in let start = fold_max_start (max a x) xs in grind (arith, nat_tests, tie, start)
    by false same h again = again h

or_left : (a b : Bool) → a ≡ true → (a || b) ≡ true
or_left true b e = refl
or_left false b e = cc

or_right : (a b : Bool) → b ≡ true → (a || b) ≡ true
or_right true b e = refl
or_right false b e = e

fold_max_reached : (a : ℕ) (xs : List ℕ) → (fold max a xs ≡ a) ⊎ (list_any (eq_by_cmp nat_cmp (fold max a xs)) xs ≡ true)
fold_max_reached a [] = inl refl
fold_max_reached a (x ∷ xs) = by (nat_le x a) refl (fold_max_reached (max a x) xs)
  where
    by : (t : Bool) → nat_le x a ≡ t → (fold max (max a x) xs ≡ max a x) ⊎ (list_any (eq_by_cmp nat_cmp (fold max (max a x) xs)) xs ≡ true) →
        (fold max (max a x) xs ≡ a) ⊎ ((eq_by_cmp nat_cmp (fold max (max a x) xs) x || list_any (eq_by_cmp nat_cmp (fold max (max a x) xs)) xs) ≡ true)
    by true le (inl e) = inl (e ∙ grind (arith, nat_tests, le))
    by false le (inl e) = inr (or_left _ _ (unsigned_tied (fold max (max a x) xs) x ∙ grind (arith, nat_tests, e, le)))
    by t le (inr among) = inr (or_right _ _ among)

pub greatest_bound : (s : Set number_order) (q : ℕ) → set.contains s q ≡ true → q ≤ greatest s
greatest_bound s q there = fold_max_bound 0 q (set.items s) (contains-items s q ∙ there)

pub greatest_reached : (s : Set number_order) → (greatest s ≡ 0) ⊎ (set.contains s (greatest s) ≡ true)
greatest_reached s = elim (fold_max_reached 0 (set.items s)) [ inl none ↦ inl none | inr among ↦ inr (sym (contains-items s (greatest s)) ∙ among) ]

-- the greatest end of ranges is not below their points, and one of them or 0
top_bound : (ranges : List Range) (q : ℕ) → have_point ranges q ≡ true → q ≤ top ranges
top_bound [] q there = cc
top_bound (r ∷ ranges) q there = by (has_point r q) refl there (λ h. top_bound ranges q h)
  where
    by : (t : Bool) → has_point r q ≡ t → (t || have_point ranges q) ≡ true → (have_point ranges q ≡ true → q ≤ top ranges) → q ≤ max r.high (top ranges)
    by true in_r h again = grind (arith, nat_tests, in_r)
    by false in_r h again = let rest = again h in omega (arith, rest)

top_reached : (least : ℕ) (ranges : List Range) → RangesFrom least ranges → (top ranges ≡ 0) ⊎ (have_point ranges (top ranges) ≡ true)
top_reached least [] h = inl refl
top_reached least (r ∷ ranges) h = by (nat_le (top ranges) r.high) refl (top_reached (r.high + 2) ranges h.3)
  where
    ends : r.low ≤ r.high
    ends = h.1

    by : (t : Bool) → nat_le (top ranges) r.high ≡ t → (top ranges ≡ 0) ⊎ (have_point ranges (top ranges) ≡ true) → (max r.high (top ranges) ≡ 0) ⊎ ((has_point r (max r.high (top ranges)) || have_point ranges (max r.high (top ranges))) ≡ true)
    by true le rest = let e = ends in
        let m : max r.high (top ranges) ≡ r.high = grind (arith, nat_tests, le) in
        let at_end : has_point r r.high ≡ true = grind (arith, nat_tests, e) in
        inr (or_left (has_point r (max r.high (top ranges))) (have_point ranges (max r.high (top ranges))) (ap (has_point r) m ∙ at_end))
    by false le (inl none) = absurd (grind (arith, nat_tests, le, none))
    by false le (inr there) = let m : max r.high (top ranges) ≡ top ranges = grind (arith, nat_tests, le) in
        inr (or_right (has_point r (max r.high (top ranges))) (have_point ranges (max r.high (top ranges))) (ap (have_point ranges) m ∙ there))

pub greatest_is : (ranges : List Range) → RangesFrom 1 ranges → greatest (points_of ranges) ≡ top ranges
greatest_is ranges h =
    let up : greatest (points_of ranges) ≤ top ranges = elim (greatest_reached (points_of ranges)) [
      | inl none ↦ omega (arith, none)
      | inr there ↦ top_bound ranges (greatest (points_of ranges)) (sym (contains-points_of ranges (greatest (points_of ranges))) ∙ there)
    ] in
    let down : top ranges ≤ greatest (points_of ranges) = elim (top_reached 1 ranges h) [
      | inl none ↦ omega (arith, none)
      | inr there ↦ greatest_bound (points_of ranges) (top ranges) (contains-points_of ranges (top ranges) ∙ there)
    ] in
    omega (arith, up, down)

-- the numbers from 1, and those after the first few
points_snoc : (p n : ℕ) → points_from p (suc n) ≡ points_from p n ++ (p + n) ∷ []
points_snoc p zero = ap (λ q. q ∷ []) (omega arith)
points_snoc p (suc n) = ap (λ ps. p ∷ ps) (points_snoc (p + 1) n ∙ ap (λ q. points_from (p + 1) n ++ q ∷ []) (omega arith))

numbers_from : (n : ℕ) → numbers_to n ≡ points_from 1 n
numbers_from zero = refl
numbers_from (suc n) = ap (λ ps. ps ++ suc n ∷ []) (numbers_from n) ∙ ap (λ q. points_from 1 n ++ q ∷ []) (omega arith) ∙ sym (points_snoc 1 n)

drop_points : (k p n : ℕ) → drop k (points_from p n) ≡ points_from (p + k) (n - k)
drop_points zero p n = let a : p ≡ p + 0 = omega arith in let b : n ≡ n - 0 = omega arith in rw (← a, ← b) refl
drop_points (suc k) p zero = let none : 0 - suc k ≡ 0 = omega arith in rw none refl
drop_points (suc k) p (suc n) = drop_points k (p + 1) n ∙ ap (λ q. points_from q (n - k)) (omega arith) ∙ ap (points_from (p + suc k)) (omega arith)

-- if the first points fail the test, the search goes on after them
find_skip : (test : ℕ → Bool) (n p m : ℕ) → ((q : ℕ) → p ≤ q → q < p + n → test q ≡ false) → find test (points_from p (n + m)) ≡ find test (points_from (p + n) m)
find_skip test zero p m fails = let a : zero + m ≡ m = omega arith in let b : p + zero ≡ p = omega arith in rw (a, b) refl
find_skip test (suc n) p m fails = let a : suc n + m ≡ suc (n + m) = omega arith in let b : p + suc n ≡ (p + 1) + n = omega arith in
    rw (a, b) (ap (λ t. cond t (Some p) (find test (points_from (p + 1) (n + m)))) (fails p (omega arith) (omega arith)) ∙ find_skip test n (p + 1) m (λ q le lt. fails q (omega arith) (omega arith)))

find_same : (test other : ℕ → Bool) (n p : ℕ) → ((q : ℕ) → p ≤ q → test q ≡ other q) → find test (points_from p n) ≡ find other (points_from p n)
find_same test other zero p same = refl
find_same test other (suc n) p same = ap (λ t. cond t (Some p) (find test (points_from (p + 1) n))) (same p (omega arith)) ∙ ap (λ r. cond (other p) (Some p) r) (find_same test other n (p + 1) (λ q le. same q (omega arith)))

-- no range has a point that is below them
none_before : (least q : ℕ) (ranges : List Range) → RangesFrom least ranges → q < least → have_point ranges q ≡ false
none_before least q [] h lt = refl
none_before least q (r ∷ ranges) h lt =
    let low : least ≤ r.low = h.0 in
    let ends : r.low ≤ r.high = h.1 in
    let rest = none_before (r.high + 2) q ranges h.3 (omega arith) in
    ap (λ t. has_point r q || t) rest ∙ grind (arith, nat_tests)

-- the first gap from a point on, range by range
abbrev pub gap_in : ℕ → List Range → Option ℕ
gap_in next [] = None
gap_in next (r ∷ ranges) = cond (nat_lt next r.low) (Some next) (gap_in (max next (r.high + 1)) ranges)

-- no range has the point
abbrev misses : List Range → ℕ → Bool
misses ranges p = not (have_point ranges p)

abbrev past : ℕ → Range → ℕ
past next r = max next (r.high + 1)

gap_found : (least next : ℕ) (ranges : List Range) → RangesFrom least ranges → 1 ≤ next → find (λ p. not (have_point ranges p)) (points_from next (top ranges + 1 - next)) ≡ gap_in next ranges
gap_found least next [] h some = let none : 0 + 1 - next ≡ 0 = omega arith in rw none refl
gap_found least next (r ∷ ranges) h some = by (nat_lt next r.low) refl (gap_found (r.high + 2) (max next (r.high + 1)) ranges h.3 (omega arith))
  where
    ends : r.low ≤ r.high
    ends = h.1

    uncovered : next < r.low → misses (r ∷ ranges) next ≡ true
    uncovered lt = let e = ends in
        let rest = none_before (r.high + 2) next ranges h.3 (omega (arith, e)) in
        ap (λ t. not (has_point r next || t)) rest ∙ grind (arith, nat_tests)

    covered : (q : ℕ) → r.low ≤ q → q ≤ r.high → misses (r ∷ ranges) q ≡ false
    covered q low high = let in_r : has_point r q ≡ true = grind (arith, nat_tests) in ap (λ t. not (t || have_point ranges q)) in_r

    behind : (q : ℕ) → r.high < q → misses (r ∷ ranges) q ≡ not (have_point ranges q)
    behind q lt = let out : has_point r q ≡ false = grind (arith, nat_tests) in ap (λ t. not (t || have_point ranges q)) out

    by : (t : Bool) → nat_lt next r.low ≡ t → find (λ p. not (have_point ranges p)) (points_from (past next r) (top ranges + 1 - (past next r))) ≡ gap_in (past next r) ranges → find (misses (r ∷ ranges)) (points_from next (max r.high (top ranges) + 1 - next)) ≡ cond t (Some next) (gap_in (past next r) ranges)
    by true before rest =
        let e = ends in
        let lt : next < r.low = ltb-true next r.low before in
        let count : max r.high (top ranges) + 1 - next ≡ suc (max r.high (top ranges) - next) = omega arith in
        rw count (ap (λ t. cond t (Some next) (find (misses (r ∷ ranges)) (points_from (next + 1) (max r.high (top ranges) - next)))) (uncovered lt))
    by false before rest =
        let le : r.low ≤ next = ltb-false next r.low before in
        let count : max r.high (top ranges) + 1 - next ≡ (r.high + 1 - next) + (top ranges + 1 - (past next r)) = omega arith in
        let start : next + (r.high + 1 - next) ≡ (past next r) = omega arith in
        ap (λ n. find (misses (r ∷ ranges)) (points_from next n)) count
        ∙ find_skip (misses (r ∷ ranges)) (r.high + 1 - next) next (top ranges + 1 - (past next r)) (λ q from to. covered q (omega arith) (omega arith))
        ∙ ap (λ p. find (misses (r ∷ ranges)) (points_from p (top ranges + 1 - (past next r)))) start
        ∙ find_same (misses (r ∷ ranges)) (misses ranges) (top ranges + 1 - (past next r)) (past next r) (λ q from. behind q (omega arith))
        ∙ rest

-- the first gap above a point
pub gap_is : (point : ℕ) (ranges : List Range) → RangesFrom 1 ranges → gap_above point (points_of ranges) ≡ gap_in (point + 1) ranges
gap_is point ranges h =
    let n : top ranges - point ≡ top ranges + 1 - (point + 1) = omega arith in
    let p : 1 + point ≡ point + 1 = omega arith in
    ap (λ g. find (λ p. not (set.contains (points_of ranges) p)) (drop point (numbers_to g))) (greatest_is ranges h)
    ∙ ap (λ ps. find (λ p. not (set.contains (points_of ranges) p)) (drop point ps)) (numbers_from (top ranges))
    ∙ ap (find (λ p. not (set.contains (points_of ranges) p))) (drop_points point 1 (top ranges))
    ∙ find_same (λ p. not (set.contains (points_of ranges) p)) (λ p. not (have_point ranges p)) (top ranges - point) (1 + point) (λ q le. ap not (contains-points_of ranges q))
    ∙ ap (λ k. find (λ p. not (have_point ranges p)) (points_from (1 + point) k)) n
    ∙ ap (λ k. find (λ p. not (have_point ranges p)) (points_from k (top ranges + 1 - (point + 1)))) p
    ∙ gap_found 1 (point + 1) ranges h (omega arith)

module _ (point : ℕ) (ranges : List Range) (h : RangesFrom 1 ranges) (next i : ℕ) (so_far : gap_in next (drop i ranges) ≡ gap_in (point + 1) ranges) where
  -- a gap before the next range
  pub gap_here : (r : Range) → i < length ranges → r ≡ get_or ranges i r → next < r.low → Some next ≡ gap_above point (points_of ranges)
  gap_here r within is lt = sym (ap (gap_in next) (drop-cons ranges i r within ∙ ap (λ s. s ∷ drop (suc i) ranges) (sym is)) ∙ ap (λ t. cond t (Some next) (gap_in (past next r) (drop (suc i) ranges))) (lt-ltb next r.low lt)) ∙ so_far ∙ sym (gap_is point ranges h)

  -- no gap before the last range's end
  pub no_gap : length ranges ≤ i → None ≡ gap_above point (points_of ranges)
  no_gap ended = sym (ap (gap_in next) (drop_all i ranges ended)) ∙ so_far ∙ sym (gap_is point ranges h)

-- the last range ends at the greatest point
last_is : (least : ℕ) (ranges : List Range) (r : Range) → RangesFrom least ranges → slice_get ranges (length ranges - 1) ≡ Some r → r.high ≡ top ranges
last_is least [] r h is = cc
last_is least (s ∷ []) r h is = let same : s ≡ r = cc in ap (λ (x : Range). x.high) (sym same) ∙ omega arith
last_is least (s ∷ t ∷ ranges) r h is =
    let back : slice_get (s ∷ t ∷ ranges) (length (s ∷ t ∷ ranges) - 1) ≡ slice_get (t ∷ ranges) (length (t ∷ ranges) - 1) = shift in
    let rest : r.high ≡ top (t ∷ ranges) = last_is (s.high + 2) (t ∷ ranges) r h.3 (sym back ∙ is) in
    let apart : s.high + 2 ≤ t.low = h.3.0 in
    let ends : t.low ≤ t.high = h.3.1 in
    rest ∙ omega arith
  where
    shift : slice_get (s ∷ t ∷ ranges) (length (s ∷ t ∷ ranges) - 1) ≡ slice_get (t ∷ ranges) (length (t ∷ ranges) - 1)
    shift = let a : length (s ∷ t ∷ ranges) - 1 ≡ suc (length ranges) = omega arith in let b : length (t ∷ ranges) - 1 ≡ length ranges = omega arith in
        ap (slice_get (s ∷ t ∷ ranges)) a ∙ ap (slice_get (t ∷ ranges)) (sym b)

pub last_is_greatest : (ranges : List Range) (r : Range) → RangesFrom 1 ranges → slice_get ranges (length ranges - 1) ≡ Some r → r.high ≡ greatest (points_of ranges)
last_is_greatest ranges r h is = last_is 1 ranges r h is ∙ sym (greatest_is ranges h)
