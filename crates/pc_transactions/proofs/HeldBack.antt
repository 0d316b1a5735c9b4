-- What is known of a change of the phase that nothing holds back.
use Rattle.std.proofs.Common.{◌≡◌, ℕ, ◌==◌, List, [], ◌∷◌, length, Some, None, is_some, refl, ap, arith, Bool, true, false}
use Rattle.std.specs.Prelude.{if◌then◌else◌}
use Rattle.std.proofs.lemmas.Bool.Decides.{nat_tests}
use Rattle.pc_types.specs.Phases.{same_phase}
use Rattle.pc_phase.specs.declared.change.Change.{Change}
use Rattle.pc_phase.specs.declared.change.Held.TheVariants.{WrongPhase, PointsFull, NotYet}
use Rattle.pc_phase.specs.Phases.{Phases, held_back, from_of, lacks_point, obstacle_count}

-- what is known of a change that nothing holds back
pub record IsFree (phases : Phases) (change : Change) (left : ℕ) : Type 0 where
  pub in_phase : same_phase phases.phase (from_of change) ≡ true
  pub point : lacks_point change phases.point ≡ false
  pub none : obstacle_count change phases left ≡ 0

-- it is known where nothing holds it back
pub is_free : (phases : Phases) (change : Change) (left : ℕ) → held_back phases change left ≡ None → IsFree phases change left
is_free phases change left none = by_tests (same_phase phases.phase (from_of change)) (lacks_point change phases.point) (obstacle_count change phases left == 0) refl refl refl none
  where
    by_tests : (is full zero : Bool) → same_phase phases.phase (from_of change) ≡ is → lacks_point change phases.point ≡ full → (obstacle_count change phases left == 0) ≡ zero →
        (if is then (if full then Some PointsFull else (if zero then None else Some (NotYet (obstacle_count change phases left)))) else Some WrongPhase) ≡ None → IsFree phases change left
    by_tests true false true a b c e = record { in_phase = a; point = b; none = let none : obstacle_count change phases left ≡ 0 = grind (arith, nat_tests, c) in none }
    by_tests true false false a b c e = absurd (let no : true ≡ false = ap is_some e in cc)
    by_tests true true zero a b c e = absurd (let no : true ≡ false = ap is_some e in cc)
    by_tests false full zero a b c e = absurd (let no : true ≡ false = ap is_some e in cc)

-- a list without an item
pub none_left : (keys : List (List ℕ)) → length keys ≡ 0 → keys ≡ []
none_left [] e = refl
none_left (k ∷ ks) e = absurd (omega (arith, e))
