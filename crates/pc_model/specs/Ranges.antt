-- The ranges of ascending points: how a set of points is written down.
use Rattle.std.specs.Prelude.{ℕ, ◌+◌, ◌==◌, List, [], ◌∷◌, if◌then◌else◌}

-- the ranges with one more before them, which is joined to the first if that follows on it
abbrev pub with_range_before : ℕ → ℕ → List (ℕ × ℕ) → List (ℕ × ℕ)
with_range_before low high [] = (low, high) ∷ []
with_range_before low high (r ∷ ranges) = if r.0 == high + 1 then (low, r.1) ∷ ranges else (low, high) ∷ r ∷ ranges

-- the ranges of points that ascend: each from its least to its greatest point
abbrev pub ranges_of : List ℕ → List (ℕ × ℕ)
ranges_of [] = []
ranges_of (p ∷ points) = with_range_before p p (ranges_of points)
