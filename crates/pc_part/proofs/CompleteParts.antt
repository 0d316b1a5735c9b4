-- Parts whose points are all those from 1 to a last one.
use Rattle.std.proofs.Common.{◌≡◌, ℕ, zero, suc, ◌+◌, ◌-◌, ◌≤◌, ◌==◌, Bool, true, false, List, [], ◌∷◌, ◌++◌, Option, Some, None, refl, sym, ap, ◌∙◌, arith}
use Rattle.std.specs.Prelude.{MatchOption, if◌then◌else◌}
use Rattle.std.proofs.lemmas.List.{append-nil}
use Rattle.std.proofs.lemmas.Bool.Decides.{nat_tests}
use Rattle.pc_model.specs.Sets as set
use Rattle.pc_model.specs.Sets.{Set, number_order}
use Rattle.pc_model.specs.Ranges.{ranges_of}
use Rattle.pc_model.specs.Files.{numbers_to}
use Rattle.pc_part.specs.declared.ranges.Range.{Range}
use Rattle.pc_part.specs.Parts.{points_from, points_in, points_of, AreRanges, bounds_of, last_covered}
use Rattle.pc_part.proofs.RangePointLaws.{items-points_of, ranges_of-points_of, one_range, points_more}

-- the points from 1 on
numbers_run : (n : ℕ) → points_from 1 n ≡ numbers_to n
numbers_run zero = refl
numbers_run (suc n) =
    let plus : suc n ≡ n + 1 = omega arith in
    let last : 1 + n ≡ suc n = omega arith in
    ap (points_from 1) plus ∙ points_more 1 n ∙ ap (λ (ps : List ℕ). ps ++ (1 + n) ∷ []) (numbers_run n) ∙ ap (λ (p : ℕ). numbers_to n ++ p ∷ []) last

-- are one range
numbers_range : (n : ℕ) → 1 ≤ n → ranges_of (numbers_to n) ≡ (1, n) ∷ []
numbers_range zero some = absurd (omega (arith, some))
numbers_range (suc n) some =
    let last : 1 + n ≡ suc n = omega arith in
    ap ranges_of (sym (numbers_run (suc n)) ∙ sym (append-nil (points_from 1 (suc n)))) ∙ one_range 1 n [] ∙ ap (λ (high : ℕ). (1, high) ∷ []) last

some_is : (n m : ℕ) → Some n ≡ Some m → n ≡ m
some_is n m is = cc

-- one range from 1 on has the points from 1 to its last
single : (ranges : List Range) (n : ℕ) → AreRanges ranges → Some n ≡ last_covered (bounds_of ranges) → (1 ≤ n) × (points_in ranges ≡ numbers_to n)
single [] n h is = cc
single (r ∷ s ∷ ranges) n h is = cc
single (r ∷ []) n h is = by_low (r.low == 1) refl is
  where
    by_low : (b : Bool) → (r.low == 1) ≡ b → Some n ≡ (if b then Some r.high else None) → (1 ≤ n) × (points_in (r ∷ []) ≡ numbers_to n)
    by_low false is_low is = cc
    by_low true is_low is =
        let low : r.low ≡ 1 = grind (arith, nat_tests) in
        let some : r.low ≤ r.high = h.1.1 in
        let last : n ≡ r.high = some_is n r.high is in
        let many : r.high + 1 - 1 ≡ n = omega (arith, last) in
        (omega (arith, low, some, last), append-nil (points_from r.low (r.high + 1 - r.low)) ∙ ap (λ k. points_from k (r.high + 1 - k)) low ∙ ap (points_from 1) many ∙ numbers_run n)

module _ (ranges : List Range) (points : Set number_order) (h : AreRanges ranges) (is : points_of ranges ≡ points) where
  -- points that are those from 1 to n are one range
  covered_is : (n : ℕ) → 1 ≤ n → set.items points ≡ numbers_to n → bounds_of ranges ≡ (1, n) ∷ []
  covered_is n some covers = sym (ranges_of-points_of ranges h) ∙ ap (λ s. ranges_of (set.items s)) is ∙ ap ranges_of covers ∙ numbers_range n some

  -- the last point, if the ranges are one from 1 on, is the one up to which all are covered, and otherwise there is
  -- none
  pub complete_is : (last : Option ℕ) → last ≡ last_covered (bounds_of ranges) →
      MatchOption last ((n : ℕ) → ¬ ((1 ≤ n) × (set.items points ≡ numbers_to n))) (λ n. (1 ≤ n) × (set.items points ≡ numbers_to n))
  complete_is None none = λ n covers. let found : None ≡ Some n = none ∙ ap last_covered (covered_is n covers.0 covers.1) in cc
  complete_is (Some n) found = let one = single ranges n h found in (one.0, ap set.items (sym is) ∙ items-points_of ranges h ∙ one.1)
