-- What the rules of a recovery come to.
use Rattle.std.proofs.Common.{◌≡◌, ◌⊎◌, inl, inr, ℕ, zero, suc, ◌+◌, ◌<◌, ◌≤◌, ◌==◌, nat_le, Bool, true, false, List, [], ◌∷◌, Option, Some, None, Result, cond, refl, sym, ap, ◌∙◌, arith}
use Rattle.std.proofs.lemmas.Bool.Decides.{nat_tests}
use Rattle.pc_types.specs.declared.limits.TheConstants.{MOST_POINTS}
use Rattle.pc_types.specs.declared.refusal.Refusal.{Refusal}
use Rattle.pc_model.specs.Files.{File}
use Rattle.pc_recover.specs.declared.recovered.Skipped.{Skipped}
use Rattle.pc_recover.specs.Recovery.{reaches, last_reached, why_unused, with_reason, unused_from}
use Rattle.pc_restarts.specs.Rules.{RecoveriesReachFurthest, RecoveriesSkipUnusedParts, AscendFrom, reason_for, why_unused_at}

-- the last point that is reached is reached, or none is and it is the base's
last_reached_is : (base : ℕ) (files : List File) (k : ℕ) → (last_reached base files k ≡ base) ⊎ (reaches base files (last_reached base files k) ≡ true)
last_reached_is base files zero = inl refl
last_reached_is base files (suc k) = by (reaches base files (suc k)) refl (last_reached_is base files k)
  where
    by : (t : Bool) → reaches base files (suc k) ≡ t → (last_reached base files k ≡ base) ⊎ (reaches base files (last_reached base files k) ≡ true)
        → (cond t (suc k) (last_reached base files k) ≡ base) ⊎ (reaches base files (cond t (suc k) (last_reached base files k)) ≡ true)
    by true is before = inr is
    by false is before = before

-- no point up to this one and after the last one that is reached is reached
none_later : (base : ℕ) (files : List File) (k later : ℕ) → last_reached base files k < later → later ≤ k → reaches base files later ≡ false
none_later base files zero later low high = absurd (omega (arith, low, high))
none_later base files (suc k) later low high = by (reaches base files (suc k)) refl (none_later base files k later) low
  where
    by : (t : Bool) → reaches base files (suc k) ≡ t → (last_reached base files k < later → later ≤ k → reaches base files later ≡ false) → cond t (suc k) (last_reached base files k) < later → reaches base files later ≡ false
    by true is before past = absurd (omega (arith, past, high))
    by false is before past = at (nat_le later k) refl
      where
        at : (t : Bool) → nat_le later k ≡ t → reaches base files later ≡ false
        at true le = before past (grind (arith, nat_tests))
        at false gt =
            let last : later ≡ suc k = grind (arith, nat_tests) in
            ap (reaches base files) last ∙ is

pub reach_furthest : RecoveriesReachFurthest
reach_furthest base files = record {
  reached = last_reached_is base files MOST_POINTS;
  greatest = none_later base files MOST_POINTS;
}

module _ (point : ℕ) (gap : Option ℕ) where
  ascend_before : (place : ℕ) (skipped : List Skipped) → AscendFrom (place + 1) skipped → AscendFrom place skipped
  ascend_before place [] is = tt
  ascend_before place (part ∷ others) is = (omega (arith, is.0), is.1)

  ascending : (start : ℕ) (parts : List (Result File Refusal)) → AscendFrom start (unused_from start point gap parts)
  ascending start [] = tt
  ascending start (part ∷ parts) = by (why_unused point gap part) (ascending (start + 1) parts)
    where
      by : (why : Option Refusal) → AscendFrom (start + 1) (unused_from (start + 1) point gap parts) → AscendFrom start (with_reason start why (unused_from (start + 1) point gap parts))
      by None later = ascend_before start (unused_from (start + 1) point gap parts) later
      by (Some why) later = (omega arith, later)

  -- a list that begins later says nothing of the place
  none_before : (place start : ℕ) (skipped : List Skipped) → place < start → AscendFrom start skipped → reason_for place skipped ≡ None
  none_before place start [] low is = refl
  none_before place start (part ∷ others) low is = by (part.place == place) refl (none_before place (part.place + 1) others (omega (arith, low, is.0)) is.1)
    where
      by : (t : Bool) → (part.place == place) ≡ t → reason_for place others ≡ None → cond t (Some part.reason) (reason_for place others) ≡ None
      by true same later = let equal : part.place ≡ place = grind (arith, nat_tests) in absurd (omega (arith, equal, low, is.0))
      by false apart later = later

  reasons : (start place : ℕ) (parts : List (Result File Refusal)) → reason_for (start + place) (unused_from start point gap parts) ≡ why_unused_at point gap parts place
  reasons start place [] = refl
  reasons start zero (part ∷ parts) = by (why_unused point gap part)
    where
      by : (why : Option Refusal) → reason_for (start + 0) (with_reason start why (unused_from (start + 1) point gap parts)) ≡ why
      by None = none_before (start + 0) (start + 1) (unused_from (start + 1) point gap parts) (omega arith) (ascending (start + 1) parts)
      by (Some why) = let same : (start == (start + 0)) ≡ true = grind (arith, nat_tests) in ap (λ t. cond t (Some why) (reason_for (start + 0) (unused_from (start + 1) point gap parts))) same
  reasons start (suc place) (part ∷ parts) = by (why_unused point gap part) (let one : start + suc place ≡ (start + 1) + place = omega arith in ap (λ p. reason_for p (unused_from (start + 1) point gap parts)) one ∙ reasons (start + 1) place parts)
    where
      by : (why : Option Refusal) → reason_for (start + suc place) (unused_from (start + 1) point gap parts) ≡ why_unused_at point gap parts place
          → reason_for (start + suc place) (with_reason start why (unused_from (start + 1) point gap parts)) ≡ why_unused_at point gap parts place
      by None next = next
      by (Some why) next = let apart : (start == (start + suc place)) ≡ false = grind (arith, nat_tests) in ap (λ t. cond t (Some why) (reason_for (start + suc place) (unused_from (start + 1) point gap parts))) apart ∙ next

pub skip_unused : RecoveriesSkipUnusedParts
skip_unused point gap parts = ((λ place. let from : 0 + place ≡ place = omega arith in ap (λ p. reason_for p (unused_from 0 point gap parts)) (sym from) ∙ reasons point gap 0 place parts), ascending point gap 0 parts)
