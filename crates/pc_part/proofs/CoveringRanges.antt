-- Of ranges that ascend, only the first that doesn't end before a point can have it.
use Rattle.std.proofs.Common.{◌≡◌, ℕ, zero, suc, ◌+◌, ◌<◌, ◌≤◌, ◌&&◌, ◌||◌, nat_le, true, false, List, [], ◌∷◌, length, get_or, refl, arith}
use Rattle.std.specs.List.Sorted.{IsNonDecreasingBy}
use Rattle.std.proofs.lemmas.Bool.Decides.{nat_tests}
use Rattle.pc_part.specs.declared.ranges.Range.{Range}
use Rattle.pc_part.specs.Parts.{RangesFrom, covers}

-- no range ends before the least point
ends_after : (least : ℕ) (ranges : List Range) → RangesFrom least ranges → (k : ℕ) (d : Range) → k < length ranges → least ≤ (get_or ranges k d).high
ends_after least [] h k d lt = absurd (omega (arith, lt))
ends_after least (r ∷ ranges) h zero d lt = omega (arith, h.0, h.1)
ends_after least (r ∷ ranges) h (suc k) d lt = let later = ends_after (r.high + 2) ranges h.3 k d (omega (arith, lt)) in omega (arith, h.0, h.1, later)

pub ends_rise : (least : ℕ) (ranges : List Range) → RangesFrom least ranges → IsNonDecreasingBy (λ range. range.high) ranges
ends_rise least [] h i j d le lt = absurd (omega (arith, lt))
ends_rise least (r ∷ ranges) h zero zero d le lt = omega arith
ends_rise least (r ∷ ranges) h zero (suc j) d le lt = let later = ends_after (r.high + 2) ranges h.3 j d (omega (arith, lt)) in omega (arith, later)
ends_rise least (r ∷ ranges) h (suc i) zero d le lt = absurd (omega (arith, le))
ends_rise least (r ∷ ranges) h (suc i) (suc j) d le lt = ends_rise (r.high + 2) ranges h.3 i j d (omega (arith, le)) (omega (arith, lt))

-- a point below the least one is in none
starts_after : (least point : ℕ) (ranges : List Range) → RangesFrom least ranges → point < least → covers ranges point ≡ false
starts_after least point [] h lt = refl
starts_after least point (r ∷ ranges) h lt =
    let low : least ≤ r.low = h.0 in
    let high : r.low ≤ r.high = h.1 in
    let first : (nat_le r.low point && nat_le point r.high) ≡ false = grind (arith, nat_tests) in
    rw first (starts_after (r.high + 2) point ranges h.3 (omega arith))

-- a point above the last range is in none
pub covers_none : (point : ℕ) (ranges : List Range) → ((k : ℕ) (d : Range) → k < length ranges → (get_or ranges k d).high < point) → covers ranges point ≡ false
covers_none point [] below = refl
covers_none point (r ∷ ranges) below =
    let ended : r.high < point = below 0 r (omega arith) in
    let first : (nat_le r.low point && nat_le point r.high) ≡ false = grind (arith, nat_tests) in
    rw first (covers_none point ranges (λ k d lt. below (suc k) d (omega (arith, lt))))

-- the first that doesn't end before the point has it, or none has
pub covers_at : (least point : ℕ) (ranges : List Range) (i : ℕ) (d : Range) → RangesFrom least ranges → i < length ranges → ((k : ℕ) → k < i → (get_or ranges k d).high < point) → point ≤ (get_or ranges i d).high
    → covers ranges point ≡ nat_le (get_or ranges i d).low point
covers_at least point [] i d h lt below ends = absurd (omega (arith, lt))
covers_at least point (r ∷ ranges) (suc i) d h lt below ends =
    let ended : r.high < point = below 0 (omega arith) in
    let first : (nat_le r.low point && nat_le point r.high) ≡ false = grind (arith, nat_tests) in
    rw first (covers_at (r.high + 2) point ranges i d h.3 (omega (arith, lt)) (λ k more. below (suc k) (omega (arith, more))) ends)
covers_at least point (r ∷ ranges) zero d h lt below ends =
    elim (nat_le r.low point) as (λ b. nat_le r.low point ≡ b → ((b && nat_le point r.high) || covers ranges point) ≡ b) [
      | true ↦ λ starts. let first : nat_le point r.high ≡ true = grind (arith, nat_tests) in rw first refl
      | false ↦ λ starts. starts_after (r.high + 2) point ranges h.3 (grind (arith, nat_tests))
    ] refl
