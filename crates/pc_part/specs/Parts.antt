-- Part files: the points and the triples that a part covers, and how both are stored.
use Rattle.std.specs.Prelude.{◌≡◌, ℕ, zero, suc, ◌+◌, ◌-◌, ◌≤◌, ◌==◌, nat_le, ◌&&◌, Bool, List, [], ◌∷◌, ◌++◌, Option, Some, None, if◌then◌else◌, length, map, IsTrue}
use Rattle.std.specs.List.{All, list_any}
use Rattle.std.specs.Coded.{Coded, code_by, coded×, coded_ℕ, coded_list, coded_option}
use base.Stored.{coded_unit}
use mathlib.Core.Path.{refl}
use Rattle.pc_model.specs.Maps as map_of
use Rattle.pc_model.specs.Sets as set
use Rattle.pc_model.specs.Sets.{Set, number_order}
use Rattle.pc_model.specs.Points.{AtPoint, Triples}
use Rattle.pc_model.specs.Files.{File, numbers_to}
use Rattle.pc_types.specs.declared.Triple.{Triple}
use Rattle.pc_types.specs.declared.limits.TheConstants.{MOST_FILE_ENTRIES, MOST_POINTS}
use Rattle.pc_part.specs.declared.ranges.Range.{Range}

-- a file has at most 4,294,967,295 entries
abbrev pub IsWithinLimit : {X : Type 0} → List X → Type 0
IsWithinLimit entries = length entries ≤ MOST_FILE_ENTRIES

-- that many points, from this one on
abbrev pub points_from : ℕ → ℕ → List ℕ
points_from point zero = []
points_from point (suc count) = point ∷ points_from (point + 1) count

-- the points of the ranges, in their order
abbrev pub points_in : List Range → List ℕ
points_in [] = []
points_in (r ∷ ranges) = points_from r.low (r.high + 1 - r.low) ++ points_in ranges

-- the set of the ranges' points
abbrev pub points_of : List Range → Set number_order
points_of ranges = set.from_list (points_in ranges)

-- each range begins at this point or above, and leaves out at least one point before the next
abbrev pub RangesFrom : ℕ → List Range → Type 0
RangesFrom least [] = Unit {0}
RangesFrom least (r ∷ ranges) = (least ≤ r.low) × (r.low ≤ r.high) × (r.high ≤ MOST_POINTS) × RangesFrom (r.high + 2) ranges

-- the ranges of a part: there is one, and they ascend with gaps between them
abbrev pub AreRanges : List Range → Type 0
AreRanges ranges = (1 ≤ length ranges) × RangesFrom 1 ranges

-- the point is in one of the ranges
abbrev pub covers : List Range → ℕ → Bool
covers ranges point = list_any (λ range. nat_le range.low point && nat_le point range.high) ranges

-- a range as its first and its last point
abbrev pub bounds : Range → ℕ × ℕ
bounds range = (range.low, range.high)

-- the same of each range
abbrev pub bounds_of : List Range → List (ℕ × ℕ)
bounds_of ranges = map bounds ranges

-- the file's points are those from 1 to n
abbrev pub CoversTo : File → ℕ → Type 0
CoversTo file n = (1 ≤ n) × (set.items file.points ≡ numbers_to n)

-- the last point, if the ranges are one from 1 on
abbrev pub last_covered : List (ℕ × ℕ) → Option ℕ
last_covered (r ∷ []) = if r.0 == 1 then Some r.1 else None
last_covered ranges = None

-- each triple is of one of the points
abbrev pub AreCovered : Set number_order → List Triple → Type 0
AreCovered points triples = All (λ triple. IsTrue (set.contains points triple.point)) triples

-- what a key has at a point is stored as the point and the content
abbrev pub at_point_code : Coded AtPoint
at_point_code = code_by (ℕ × Option (List ℕ)) (coded× coded_ℕ (coded_option (coded_list coded_ℕ))) (λ a. (a.point, a.content)) (λ t. record { point = t.0; content = t.1 }) (λ _. refl)

-- a file is stored as its run, its points and its triples
abbrev pub file_code : Coded File
file_code = code_by (ℕ × (Set number_order × Triples)) (coded× coded_ℕ (coded× (map_of.code coded_ℕ coded_unit) (map_of.code (coded_list coded_ℕ) at_point_code))) (λ f. (f.run, (f.points, f.triples))) (λ t. record { run = t.0; points = t.1.0; triples = t.1.1 }) (λ _. refl)
