-- A part that has a text, by the lists that it has.
use Rattle.std.proofs.Common.{◌≡◌, ◌≤◌, ◌<◌, ◌+◌, ◌-◌, ◌^◌, ℕ, zero, suc, List, [], ◌∷◌, ◌++◌, length, sym, ap, subst, ◌∙◌, arith}
use Rattle.std.specs.List.{All, AllByRecursion}
use Rattle.std.proofs.lemmas.List.{length-map}
use Rattle.std.proofs.lemmas.List.Elements.{All-map, All-from_recursion}
use Rattle.pc_model.specs.Sets as set
use Rattle.pc_model.specs.Files.{File}
use Rattle.pc_model.specs.TripleLists.{entry_of, map_entries}
use Rattle.pc_types.specs.declared.Triple.{Triple}
use Rattle.pc_part.specs.declared.ranges.Range.{Range}
use Rattle.pc_part.specs.Parts.{IsWithinLimit, points_from, points_in, points_of, RangesFrom, AreRanges, AreCovered}
use Rattle.pc_part.specs.Lawful.{IsPoint, IsPartEntry, HasLimits, IsPartFile}
use Rattle.pc_part.proofs.RangePointLaws.{items-points_of}

run_points : (p n : ℕ) (rest : List ℕ) → 1 ≤ p → p + n ≤ 65536 → AllByRecursion IsPoint rest → AllByRecursion IsPoint (points_from p n ++ rest)
run_points p zero rest low high h = h
run_points p (suc n) rest low high h = ((low, omega arith), run_points (p + 1) n rest (omega arith) (omega arith) h)

-- the points of ranges are points of a part
pub ranges_points : (least : ℕ) (ranges : List Range) → 1 ≤ least → RangesFrom least ranges → AllByRecursion IsPoint (points_in ranges)
ranges_points least [] from h = tt
ranges_points least (r ∷ ranges) from h =
    let low : least ≤ r.low = h.0 in
    let high : r.low ≤ r.high = h.1 in
    let limit : r.high ≤ 65535 = h.2 in
    run_points r.low (r.high + 1 - r.low) (points_in ranges) (omega arith) (omega arith) (ranges_points (r.high + 2) ranges (omega arith) h.3)

-- a range has a point
pub some_point : (ranges : List Range) → AreRanges ranges → 1 ≤ length (points_in ranges)
some_point [] h = absurd (omega (arith, h.0))
some_point (r ∷ ranges) h =
    let high : r.low ≤ r.high = h.1.1 in
    let many : r.high + 1 - r.low ≡ suc (r.high - r.low) = omega arith in
    subst (λ n. 1 ≤ length (points_from r.low n ++ points_in ranges)) (sym many) (omega arith)

pub part_lawful : (file : File) (run : ℕ) (ranges : List Range) (triples : List Triple) → run ≡ file.run → points_of ranges ≡ file.points → map_entries triples ≡ file.triples.entries
    → run < 2 ^ 64 → AreRanges ranges → AreCovered file.points triples → IsWithinLimit triples → All HasLimits triples → IsPartFile file
part_lawful file run ranges triples same_run same_points same_entries run_fits apart covered limit fit =
    let items : set.items file.points ≡ points_in ranges = ap set.items (sym same_points) ∙ items-points_of ranges apart in
    record {
      run = subst (λ n. n < 2 ^ 64) same_run run_fits;
      some = subst (λ n. 1 ≤ n) (ap length (sym items) ∙ length-map file.points.entries (λ e. e.0)) (some_point ranges apart);
      points = subst (All IsPoint) (sym items) (All-from_recursion IsPoint (points_in ranges) (ranges_points 1 ranges (omega arith) apart.1));
      entries = subst (All (IsPartEntry file.points)) same_entries (All-map (IsPartEntry file.points) entry_of triples (λ k d lt. record { key = (fit k d lt).0; covered = covered k d lt; content = (fit k d lt).1 }));
      limit = subst IsWithinLimit same_entries (subst (λ n. n ≤ 4294967295) (sym (length-map triples entry_of)) limit);
    }
