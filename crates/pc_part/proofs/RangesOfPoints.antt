-- The ranges of a set of points are the ranges of a part, and their points are that set.
use Rattle.std.proofs.Common.{◌≡◌, ℕ, suc, ◌+◌, ◌-◌, ◌≤◌, T, eqb, true, false, cond, List, [], ◌∷◌, ◌++◌, length, map, is_some, refl, sym, ap, ◌∙◌, arith}
use Rattle.std.specs.Prelude.{⊤}
use Rattle.std.specs.List.{All, AllByRecursion}
use Rattle.std.specs.declared.cmp.Ordering.TheVariants.{Less}
use Rattle.std.specs.Ordering.{nat_cmp}
use Rattle.std.specs.Cmp.{ranked}
use Rattle.std.specs.FinMap.{is_sorted}
use Rattle.std.specs.FinMap.Entries.{below_all, is_some-find}
use Rattle.std.proofs.lemmas.Bool.{eqb-true}
use Rattle.std.proofs.lemmas.Bool.Decides.{nat_tests}
use Rattle.std.proofs.lemmas.List.{length-map}
use Rattle.pc_model.specs.Sets as set
use Rattle.pc_model.specs.Sets.{Set, number_order}
use Rattle.pc_model.specs.Ranges.{with_range_before, ranges_of}
use Rattle.pc_model.proofs.MapLaws.{get-entries}
use Rattle.pc_model.proofs.SetLaws.{contains-from_list, same_set}
use Rattle.pc_part.specs.declared.ranges.Range.{Range}
use Rattle.pc_part.specs.Lawful.{IsPoint}
use Rattle.pc_part.specs.Parts.{points_from, points_in, points_of, RangesFrom, AreRanges}
use Rattle.pc_part.proofs.RisingKeyLaws.{first, second, less}
use Rattle.pc_part.proofs.ListLaws.{by_recursion}

-- points that ascend from this one on, up to 65,535
abbrev PointsFrom : ℕ → List ℕ → Type 0
PointsFrom least [] = Unit {0}
PointsFrom least (p ∷ points) = (least ≤ p) × (p ≤ 65535) × PointsFrom (p + 1) points

above : (point : ℕ) (es : List (ℕ × ⊤)) → T (below_all nat_cmp point es) → T (is_sorted nat_cmp es) → AllByRecursion IsPoint (map (λ e. e.0) es) → PointsFrom (point + 1) (map (λ e. e.0) es)
above point [] below sorted fit = tt
above point (e ∷ es) below sorted fit =
    let lt = ranked point e.0 Less (sym (less (nat_cmp point e.0) (first _ _ below))) in
    (omega (arith, lt), fit.0.1, above e.0 es (first _ _ sorted) (second _ _ sorted) fit.1)

-- the points of a set ascend
from_one : (es : List (ℕ × ⊤)) → T (is_sorted nat_cmp es) → AllByRecursion IsPoint (map (λ e. e.0) es) → PointsFrom 1 (map (λ e. e.0) es)
from_one [] sorted fit = tt
from_one (e ∷ es) sorted fit = (fit.0.0, fit.0.1, above e.0 es (first _ _ sorted) (second _ _ sorted) fit.1)

abbrev as_range : ℕ × ℕ → Range
as_range b = record { low = b.0; high = b.1 }

-- ranges by their first and last points
abbrev pub as_ranges : List (ℕ × ℕ) → List Range
as_ranges bs = map as_range bs

one_point : (p : ℕ) (rest : List ℕ) → points_from p (p + 1 - p) ++ rest ≡ p ∷ rest
one_point p rest = let one : p + 1 - p ≡ 1 = omega arith in ap (λ n. points_from p n ++ rest) one

-- one more point before ranges
joins : (least p : ℕ) (ranges : List (ℕ × ℕ)) (points : List ℕ) → least ≤ p → p ≤ 65535 → RangesFrom (p + 1) (as_ranges ranges) → points_in (as_ranges ranges) ≡ points
    → RangesFrom least (as_ranges (with_range_before p p ranges)) × (points_in (as_ranges (with_range_before p p ranges)) ≡ p ∷ points)
joins least p [] points from limit h is = ((from, omega arith, limit, tt), one_point p [] ∙ ap (λ (ps : List ℕ). p ∷ ps) is)
joins least p (r ∷ ranges) points from limit h is =
    let low : p + 1 ≤ r.0 = h.0 in
    let high : r.0 ≤ r.1 = h.1 in
    elim (eqb r.0 (p + 1)) as (λ b. eqb r.0 (p + 1) ≡ b → RangesFrom least (as_ranges (cond b ((p, r.1) ∷ ranges) ((p, p) ∷ r ∷ ranges))) × (points_in (as_ranges (cond b ((p, r.1) ∷ ranges) ((p, p) ∷ r ∷ ranges))) ≡ p ∷ points)) [
      | true ↦ λ next.
          let at : r.0 ≡ p + 1 = eqb-true _ _ next in
          let many : r.1 + 1 - p ≡ suc (r.1 + 1 - (p + 1)) = omega (arith, at) in (
            (from, omega (arith, at), h.2, h.3),
            ap (λ n. points_from p n ++ points_in (as_ranges ranges)) many ∙ ap (λ n. p ∷ (points_from n (r.1 + 1 - n) ++ points_in (as_ranges ranges))) (sym at) ∙ ap (λ (ps : List ℕ). p ∷ ps) is,
          )
      | false ↦ λ apart.
          let gap : p + 2 ≤ r.0 = grind (arith, nat_tests) in
          ((from, omega arith, limit, (gap, h.1, h.2, h.3)), one_point p (points_in (as_ranges (r ∷ ranges))) ∙ ap (λ (ps : List ℕ). p ∷ ps) is)
    ] refl

ranges_from : (least : ℕ) (points : List ℕ) → PointsFrom least points → RangesFrom least (as_ranges (ranges_of points)) × (points_in (as_ranges (ranges_of points)) ≡ points)
ranges_from least [] h = (tt, refl)
ranges_from least (p ∷ points) h = let rest = ranges_from (p + 1) points h.2 in joins least p (ranges_of points) points h.0 h.1 rest.0 rest.1

-- the set of the points of a set
same_points : (points : Set number_order) → set.from_list (set.items points) ≡ points
same_points points = same_set _ _ (λ q. contains-from_list number_order (set.items points) q ∙ sym (is_some-find nat_cmp q points.entries) ∙ ap is_some (sym (get-entries points q)))

some_range : (points : List ℕ) → 1 ≤ length points → points_in (as_ranges (ranges_of points)) ≡ points → 1 ≤ length (as_ranges (ranges_of points))
some_range points some is = elim (as_ranges (ranges_of points)) as (λ rs. points_in rs ≡ points → 1 ≤ length rs) [
  | [] ↦ λ none. absurd (omega (arith, some, ap length none))
  | r ∷ rs ↦ λ _. omega arith
] is

module _ (points : Set number_order) (some : 1 ≤ set.len points) (fit : All IsPoint (set.items points)) where
  made : RangesFrom 1 (as_ranges (ranges_of (set.items points))) × (points_in (as_ranges (ranges_of (set.items points))) ≡ set.items points)
  made = ranges_from 1 (set.items points) (from_one points.entries points.rises (by_recursion IsPoint (set.items points) fit))

  pub ranges_apart : AreRanges (as_ranges (ranges_of (set.items points)))
  ranges_apart = (some_range (set.items points) (omega (arith, some, length-map points.entries (λ e. e.0))) made.1, made.0)

  pub points_back : points_of (as_ranges (ranges_of (set.items points))) ≡ points
  points_back = ap set.from_list made.1 ∙ same_points points
