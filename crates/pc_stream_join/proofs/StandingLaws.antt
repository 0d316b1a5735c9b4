-- The counts of failures of inputs after the call of one was refused.
use Rattle.std.proofs.Common.{◌≡◌, ℕ, zero, suc, ◌<◌, List, [], ◌∷◌, length, map, set, Option, Some, None, Ok, Err, refl, sym, ap, subst, ◌∙◌, arith, inl, inr}
use Rattle.pc_io.specs.Counted.{HasRisen}
use Rattle.pc_types.specs.declared.Refusal.{Refusal}
use Rattle.pc_types.specs.declared.Refusal.TheVariants.{Device}
use Rattle.pc_merge.specs.Coming.{Standing, KeepsRefusal, StandsBy}
use Rattle.pc_merge.specs.Standings.{AllStand, HasFailed, standing_at}

abbrev pub failures : List Standing → List ℕ
failures standings = map (λ (input : Standing). input.failures) standings

-- the one that is set has as many failures as it had
set_failures : (was : List Standing) (place : ℕ) (now : Standing) → place < length was → now.failures ≡ (standing_at was place).failures → failures (set was place now) ≡ failures was
set_failures [] place now lt same = absurd (omega arith)
set_failures (first ∷ was) zero now lt same = ap (λ (n : ℕ). n ∷ failures was) same
set_failures (first ∷ was) (suc place) now lt same = ap (λ (ns : List ℕ). first.failures ∷ ns) (set_failures was place now (omega (arith, lt)) same)

set_at : (was : List Standing) (place : ℕ) (now : Standing) → place < length was → standing_at (set was place now) place ≡ now
set_at [] place now lt = absurd (omega arith)
set_at (first ∷ was) zero now lt = refl
set_at (first ∷ was) (suc place) now lt = set_at was place now (omega (arith, lt))

-- a call that was not refused leaves all unchanged
pub ok_stands : {X : Type 0} (was now : Standing) (x : X) → KeepsRefusal was now (Ok x) → now ≡ was
ok_stands {X} was now x stands = by was.refused stands
  where
    by : (before : Option Refusal) → StandsBy before was now (Ok x) → now ≡ was
    by None stands = stands
    by (Some why) stands = let bad : Ok x ≡ Err why = stands.0 in absurd cc

-- if nothing failed all are unchanged
pub none_failed : (X : Type 0) (was now : List Standing) (why : Refusal) → (why ≡ Device → ⊥) → now ≡ was → AllStand {X = X} was now (Err why)
none_failed X was now why other same = (λ device. absurd (other device), λ _. ap failures same)

module _ (X Y : Type 0) (was : List Standing) (place : ℕ) (now : Standing) (lt : place < length was) (why : Refusal) where
  device_failed : (before : Option Refusal) → (standing_at was place).refused ≡ before → StandsBy {X = X} before (standing_at was place) now (Err why) → why ≡ Device → HasFailed was (set was place now)
  device_failed None is stands device = (place, lt, inr (subst (λ (s : Standing). HasRisen (standing_at was place).failures s.failures) (sym (set_at was place now lt)) (stands.1.0 device)))
  device_failed (Some first) is stands device = let told = stands.0 in let same : first ≡ Device = cc in (place, lt, inl (is ∙ ap (λ (w : Refusal). Some w) same))

  none_risen : (before : Option Refusal) → StandsBy {X = X} before (standing_at was place) now (Err why) → (why ≡ Device → ⊥) → failures (set was place now) ≡ failures was
  none_risen None stands other = set_failures was place now lt (stands.1.1 other)
  none_risen (Some first) stands other = set_failures was place now lt (ap (λ (s : Standing). s.failures) stands.1)

  -- the call of one was refused
  pub one_refused : KeepsRefusal {X = X} (standing_at was place) now (Err why) → AllStand {X = Y} was (set was place now) (Err why)
  one_refused stands = (device_failed (standing_at was place).refused refl stands, none_risen (standing_at was place).refused stands)
