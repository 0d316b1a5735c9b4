-- The points of ranges: they ascend, they give the ranges back, and a range has each of them.
use Rattle.std.proofs.Common.{◌≡◌, ℕ, zero, suc, ◌+◌, ◌-◌, ◌<◌, ◌≤◌, ◌&&◌, ◌||◌, nat_le, nat_lt, T, Bool, true, false, List, [], ◌∷◌, ◌++◌, append_assoc, map, is_some, refl, sym, ap, subst, ◌∙◌, arith}
use Rattle.std.specs.Prelude.{⊤}
use Rattle.std.specs.List.{list_any}
use Rattle.std.specs.declared.cmp.Ordering.TheVariants.{Less}
use Rattle.std.specs.Ordering.{nat_cmp, is_lt, eq_by_cmp}
use Rattle.std.specs.Cmp.{nat_cmp_is, unsigned_tied}
use Rattle.std.specs.FinMap.{is_sorted}
use Rattle.std.specs.FinMap.Entries.{below_all, same_entries, is_some-find}
use Rattle.std.proofs.lemmas.Bool.Decides.{nat_tests}
use Rattle.std.proofs.lemmas.List.Folds.{list_any-append}
use Rattle.pc_model.specs.Maps as map_of
use Rattle.pc_model.specs.Sets as set
use Rattle.pc_model.specs.Sets.{Set, number_order}
use Rattle.pc_model.specs.Ranges.{with_range_before, ranges_of}
use Rattle.pc_model.proofs.MapLaws.{get-entries, get-from_list}
use Rattle.pc_model.proofs.SetLaws.{contains-from_list}
use Rattle.pc_part.specs.declared.ranges.Range.{Range}
use Rattle.pc_part.specs.Parts.{points_from, points_in, points_of, RangesFrom, AreRanges, bounds_of}

-- points as the entries of a set
abbrev units : List ℕ → List (ℕ × ⊤)
units points = map (λ p. (p, tt)) points

both : (a b : Bool) → T a → T b → T (a && b)
both true b p q = q
both false b p q = p

is_less : (p q : ℕ) → p < q → T (is_lt (nat_cmp p q))
is_less p q lt = subst (λ o. T (is_lt o)) (nat_cmp_is p q Less lt) tt

-- a point below the first of some points is below them, and below what it is below after them
below_run : (x p n : ℕ) (rest : List ℕ) → x < p → T (below_all nat_cmp x (units rest)) → T (below_all nat_cmp x (units (points_from p n ++ rest)))
below_run x p zero rest lt h = h
below_run x p (suc n) rest lt h = both _ _ (is_less x p lt) (below_run x (p + 1) n rest (omega arith) h)

-- points in order ascend, also before points that ascend above them
run_rises : (p n : ℕ) (rest : List ℕ) → ((x : ℕ) → x < p + n → T (below_all nat_cmp x (units rest))) → T (is_sorted nat_cmp (units rest)) → T (is_sorted nat_cmp (units (points_from p n ++ rest)))
run_rises p zero rest below h = h
run_rises p (suc n) rest below h = both _ _ (below_run p (p + 1) n rest (omega arith) (below p (omega arith))) (run_rises (p + 1) n rest (λ x lt. below x (omega arith)) h)

-- the points of ranges are not below the least that they begin at
below_ranges : (least x : ℕ) (ranges : List Range) → RangesFrom least ranges → x < least → T (below_all nat_cmp x (units (points_in ranges)))
below_ranges least x [] h lt = tt
below_ranges least x (r ∷ ranges) h lt =
    let low : least ≤ r.low = h.0 in
    let high : r.low ≤ r.high = h.1 in
    below_run x r.low (r.high + 1 - r.low) (points_in ranges) (omega arith) (below_ranges (r.high + 2) x ranges h.3 (omega arith))

points_rise : (least : ℕ) (ranges : List Range) → RangesFrom least ranges → T (is_sorted nat_cmp (units (points_in ranges)))
points_rise least [] h = tt
points_rise least (r ∷ ranges) h =
    let high : r.low ≤ r.high = h.1 in
    run_rises r.low (r.high + 1 - r.low) (points_in ranges) (λ x lt. below_ranges (r.high + 2) x ranges h.3 (omega arith)) (points_rise (r.high + 2) ranges h.3)

-- a set of numbers as a map
as_map : (ks : List ℕ) → set.from_list {o = number_order} ks ≡ map_of.from_list (units ks)
as_map [] = refl
as_map (k ∷ ks) = ap (λ s. set.insert s k) (as_map ks)

-- the numbers of a set are what it was made of, if that ascends
items_of : (ks : List ℕ) → T (is_sorted nat_cmp (units ks)) → set.items {o = number_order} (set.from_list ks) ≡ ks
items_of ks rise =
    let made = map_of.from_list {o = number_order} (units ks) in
    ap set.items (as_map ks) ∙ ap (map (λ e. e.0)) (same_entries nat_cmp number_order.total number_order.exact made.entries (units ks) made.rises rise (λ q. sym (get-entries made q) ∙ get-from_list number_order (units ks) q)) ∙ firsts ks
  where
    firsts : (ks : List ℕ) → map (λ e. e.0) (units ks) ≡ ks
    firsts [] = refl
    firsts (k ∷ ks) = ap (λ rest. k ∷ rest) (firsts ks)

-- points in order are one range
pub one_range : (p n : ℕ) (rest : List ℕ) → ranges_of (points_from p (suc n) ++ rest) ≡ with_range_before p (p + n) (ranges_of rest)
one_range p zero rest = ap (λ high. with_range_before p high (ranges_of rest)) (omega arith)
one_range p (suc n) rest = ap (with_range_before p p) (one_range (p + 1) n rest) ∙ wider (ranges_of rest)
  where
    wider : (ranges : List (ℕ × ℕ)) → with_range_before p p (with_range_before (p + 1) ((p + 1) + n) ranges) ≡ with_range_before p (p + suc n) ranges
    wider [] = grind (arith, nat_tests)
    wider (r ∷ ranges) = grind (arith, nat_tests)

-- the ranges of the points of ranges are these ranges
ranges_back : (least : ℕ) (ranges : List Range) → RangesFrom least ranges → ranges_of (points_in ranges) ≡ bounds_of ranges
ranges_back least [] h = refl
ranges_back least (r ∷ ranges) h =
    let high : r.low ≤ r.high = h.1 in
    let many : r.high + 1 - r.low ≡ suc (r.high - r.low) = omega arith in
    let last : r.low + (r.high - r.low) ≡ r.high = omega arith in
    ap (λ n. ranges_of (points_from r.low n ++ points_in ranges)) many
    ∙ one_range r.low (r.high - r.low) (points_in ranges)
    ∙ ap (λ high. with_range_before r.low high (ranges_of (points_in ranges))) last
    ∙ ap (with_range_before r.low r.high) (ranges_back (r.high + 2) ranges h.3)
    ∙ apart ranges h.3
  where
    apart : (ranges : List Range) → RangesFrom (r.high + 2) ranges → with_range_before r.low r.high (bounds_of ranges) ≡ (r.low, r.high) ∷ bounds_of ranges
    apart [] h = refl
    apart (s ∷ ranges) h = let gap : r.high + 2 ≤ s.low = h.0 in grind (arith, nat_tests)

-- the set of the points gives the ranges back
pub ranges_of-points_of : (ranges : List Range) → AreRanges ranges → ranges_of (set.items (points_of ranges)) ≡ bounds_of ranges
ranges_of-points_of ranges h = ap ranges_of (items_of (points_in ranges) (points_rise 1 ranges h.1)) ∙ ranges_back 1 ranges h.1

-- the set of the points has them in their order
pub items-points_of : (ranges : List Range) → AreRanges ranges → set.items (points_of ranges) ≡ points_in ranges
items-points_of ranges h = items_of (points_in ranges) (points_rise 1 ranges h.1)

-- one more point
pub points_more : (p n : ℕ) → points_from p (n + 1) ≡ points_from p n ++ (p + n) ∷ []
points_more p zero = grind arith
points_more p (suc n) = grind (arith, points_more (p + 1) n)

pub one_pushed : (old points new : List ℕ) (low n : ℕ) → points ≡ old ++ points_from low n → new ≡ points ++ (low + n) ∷ [] → new ≡ old ++ points_from low (n + 1)
one_pushed old points new low n so_far is = is ∙ ap (λ (ps : List ℕ). ps ++ (low + n) ∷ []) so_far ∙ append_assoc old (points_from low n) ((low + n) ∷ []) ∙ ap (λ (ps : List ℕ). old ++ ps) (sym (points_more low n))

-- the same of ranges known by their points
pub bounds_known : (inside given : List Range) (points : Set number_order) → AreRanges inside → points_of inside ≡ points → given ≡ inside → bounds_of given ≡ ranges_of (set.items points)
bounds_known inside given points h is same = ap bounds_of same ∙ sym (ranges_of-points_of inside h) ∙ ap (λ s. ranges_of (set.items s)) is

-- a point of these, in order, is not below the first, and below the end
in_run : (q p n : ℕ) → list_any (eq_by_cmp nat_cmp q) (points_from p n) ≡ (nat_le p q && nat_lt q (p + n))
in_run q p zero = grind (arith, nat_tests)
in_run q p (suc n) = ap (λ b. eq_by_cmp nat_cmp q p || b) (in_run q (p + 1) n) ∙ first
  where
    first : (eq_by_cmp nat_cmp q p || (nat_le (p + 1) q && nat_lt q ((p + 1) + n))) ≡ (nat_le p q && nat_lt q (p + suc n))
    first = rw (unsigned_tied q p) (grind (arith, nat_tests))

-- the set has the points of which a range is
pub contains-points_of : (ranges : List Range) (q : ℕ) → set.contains (points_of ranges) q ≡ list_any (λ r. nat_le r.low q && nat_le q r.high) ranges
contains-points_of ranges q = contains-from_list number_order (points_in ranges) q ∙ among ranges
  where
    ends : (low high : ℕ) → (nat_le low q && nat_lt q (low + (high + 1 - low))) ≡ (nat_le low q && nat_le q high)
    ends low high = grind (arith, nat_tests)

    among : (ranges : List Range) → list_any (eq_by_cmp nat_cmp q) (points_in ranges) ≡ list_any (λ r. nat_le r.low q && nat_le q r.high) ranges
    among [] = refl
    among (r ∷ ranges) = list_any-append (eq_by_cmp nat_cmp q) (points_from r.low (r.high + 1 - r.low)) (points_in ranges)
        ∙ ap (λ b. b || list_any (eq_by_cmp nat_cmp q) (points_in ranges)) (in_run q r.low (r.high + 1 - r.low) ∙ ends r.low r.high)
        ∙ ap (λ b. (nat_le r.low q && nat_le q r.high) || b) (among ranges)

-- the range has the point; some range has it
abbrev pub has_point : Range → ℕ → Bool
has_point r q = nat_le r.low q && nat_le q r.high

abbrev pub have_point : List Range → ℕ → Bool
have_point ranges q = list_any (λ r. has_point r q) ranges

-- the points of a set are those that it contains
pub contains-items : (s : Set number_order) (q : ℕ) → list_any (eq_by_cmp nat_cmp q) (set.items s) ≡ set.contains s q
contains-items s q = sym (ap is_some (get-entries s q) ∙ is_some-find nat_cmp q s.entries)
