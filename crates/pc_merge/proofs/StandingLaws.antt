-- The states of inputs after a draw, and which points they keep to.
use Rattle.std.proofs.Common.{◌≡◌, ◌≢◌, ℕ, suc, ◌++◌, option_to_list, Bool, IsTrue, true, false, nat_eq, arith, ◌<◌, ◌⊎◌, List, Option, Some, None, Result, Ok, Err, length, set, map, get_or, All, IfOk, inl, inr, refl, sym, ap, ◌∙◌, subst, IsErr, IsErrAnd}
use Rattle.std.proofs.lemmas.List.{get_or-map, get_or-set_same, get_or-set_other, length-map, map-set, set-get_or}
use Rattle.pc_io.specs.Counted.{HasRisen}
use Rattle.pc_types.specs.declared.Refusal.{Refusal}
use Rattle.std.proofs.lemmas.List.Elements.{All-get_or, All-set}
use Rattle.pc_types.specs.declared.Triple.{Triple}
use Rattle.pc_merge.specs.Coming.{GivesWithin, IsWithin, Standing, KeepsRefusal, StandsBy}
use Rattle.pc_merge.specs.Standings.{AllStand, AreWithin, standing_at}
use Rattle.pc_merge.specs.Tournaments.{first_entry_at}
use Rattle.std.proofs.lemmas.Bool.Decides.{nat_tests}

-- no input
abbrev nothing : Standing
nothing = record { refused = None; failures = 0 }

abbrev counts : List Standing → List ℕ
counts all = map (λ (s : Standing). s.failures) all

err_is : {X : Type 0} (e f : Refusal) (a b : Result X Refusal) → a ≡ Err e → b ≡ Err f → a ≡ b → e ≡ f
err_is e f a b is_a is_b same = cc

no_ok : {X : Type 0} (x : X) (f : Refusal) (a : Result X Refusal) → a ≡ Ok x → a ≡ Err f → ⊥
no_ok x f a is is_not = cc

-- what one input answers is what all of them answer
module _ (was : List Standing) (place : ℕ) (within : place < length was) (now : Standing) where
  here : standing_at (set was place now) place ≡ now
  here = get_or-set_same was place now nothing within

  -- put back as it was, nothing has changed
  put_back : now ≡ standing_at was place → set was place now ≡ was
  put_back same = ap (λ s. set was place s) same ∙ set-get_or was place nothing

  -- the same of the counts
  counts_back : now.failures ≡ (standing_at was place).failures → counts (set was place now) ≡ counts was
  counts_back same =
      map-set (λ (s : Standing). s.failures) was place now
      ∙ ap (λ n. set (counts was) place n) (same ∙ sym (get_or-map (λ (s : Standing). s.failures) was place nothing 0 within))
      ∙ set-get_or (counts was) place 0

  pub one_stands : {X : Type 0} (before : Option Refusal) (result : Result X Refusal) → (standing_at was place).refused ≡ before → StandsBy before (standing_at was place) now result → AllStand was (set was place now) result
  one_stands (Some why) (Ok x) is s = absurd (no_ok x why _ refl s.0)
  one_stands (Some why) (Err e) is s = (
    λ device. (place, within, inl (is ∙ ap Some (sym (err_is e why _ _ refl refl s.0) ∙ device))),
    λ other. counts_back (ap (λ (t : Standing). t.failures) s.1),
  )
  one_stands None (Ok x) is s = put_back s
  one_stands None (Err e) is s = (
    λ device. (place, within, inr (subst (λ (t : Standing). HasRisen (standing_at was place).failures t.failures) (sym here) (s.1.0 device))),
    λ other. counts_back (s.1.1 other),
  )

module _ {S : Type 0} (standing : S → Standing) where
  pub drawn_stands : {X : Type 0} (inputs : List S) (place : ℕ) (d now : S) (result : Result X Refusal) → place < length inputs → KeepsRefusal (standing (get_or inputs place d)) (standing now) result
      → AllStand (map standing inputs) (map standing (set inputs place now)) result
  drawn_stands inputs place d now result within s =
      let all = map standing inputs in
      let inside : place < length all = rw (length-map inputs standing) within in
      let old : standing_at all place ≡ standing (get_or inputs place d) = get_or-map standing inputs place d nothing within in
      subst (λ (ys : List Standing). AllStand all ys result) (sym (map-set standing inputs place now))
      (one_stands all place inside (standing now) (standing (get_or inputs place d)).refused result (ap (λ (t : Standing). t.refused) old)
      (subst (λ (t : Standing). StandsBy (standing (get_or inputs place d)).refused t (standing now) result) (sym old) s))

-- a refusal is handed on
pub stands_on : {X Y : Type 0} (was now : List Standing) (why : Refusal) (refused : Result X Refusal) (result : Result Y Refusal) → refused ≡ Err why → IsErr result × IsErrAnd result (λ f. f ≡ why) → AllStand was now refused → AllStand was now result
stands_on was now why (Ok x) result is given s = absurd (no_ok x why _ refl is)
stands_on was now why (Err e) (Ok y) is given s = let mistaken = given.0 in absurd cc
stands_on was now why (Err e) (Err f) is given s =
    let same = err_is e why _ _ refl refl is in
    (λ device. s.0 (same ∙ sym given.1 ∙ device), λ other. s.1 (λ device. other (given.1 ∙ sym same ∙ device)))

-- what is as it was before counts from then on
pub stands_since : {X : Type 0} (start was now : List Standing) (result : Result X Refusal) → was ≡ start → AllStand was now result → AllStand start now result
stands_since start was now result same s = subst (λ (xs : List Standing). AllStand xs now result) same s

-- ---- the points that inputs keep to

module _ {S : Type 0} (within : S → (ℕ → Bool) → Type 0) where
  -- one input gives an entry of the points, and all keep to them then
  pub drawn_within : (inputs : List S) (place : ℕ) (d now : S) (result : Result (Option Triple) Refusal) → place < length inputs → GivesWithin within (get_or inputs place d) now result
      → IfOk result (λ next. (points : ℕ → Bool) → All (λ input. within input points) inputs → IsWithin points next × All (λ input. within input points) (set inputs place now))
  drawn_within inputs place d now (Ok next) inside gives = λ points all.
      let given = gives points (All-get_or (λ input. within input points) inputs place d inside all) in
      (given.0, All-set (λ input. within input points) inputs place now given.1 all)
  drawn_within inputs place d now (Err why) inside gives = tt

  -- the first entry at a place is taken, and another one of the points is there
  pub taken_within : (points : ℕ → Bool) (inputs : List S) (firsts : List (Option Triple)) (place : ℕ) (next : Option Triple) → place < length firsts → All (λ input. within input points) inputs → ((other : ℕ) → IsWithin points (first_entry_at firsts other)) → IsWithin points next
      → AreWithin within points inputs (set firsts place next)
  taken_within points inputs firsts place next inside all drawn given = record {
    to_come = all;
    drawn = λ other. at_other other (nat_eq place other) refl;
  }
    where
      at_other : (other : ℕ) (same : Bool) → nat_eq place other ≡ same → IsWithin points (first_entry_at (set firsts place next) other)
      at_other other true is =
          let one : other ≡ place = grind (arith, nat_tests, is) in
          subst (IsWithin points) (sym (ap (λ k. get_or (set firsts place next) k None) one ∙ get_or-set_same firsts place next None inside)) given
      at_other other false is = subst (IsWithin points) (sym (get_or-set_other firsts place other next None (grind (arith, nat_tests, is)))) (drawn other)

-- of two entries of the points either is
pub newer_within : (one other newer : Triple) (points : ℕ → Bool) → IsTrue (points one.point) → IsTrue (points other.point) → (newer ≡ one) ⊎ (newer ≡ other) → IsTrue (points newer.point)
newer_within one other newer points first second (inl is) = subst (λ (t : Triple). IsTrue (points t.point)) (sym is) first
newer_within one other newer points first second (inr is) = subst (λ (t : Triple). IsTrue (points t.point)) (sym is) second

-- a list whose entries are of the points gives one of them, and keeps the others
pub list_gives_within : (points : ℕ → Bool) (given : Option Triple) (was now : List Triple) → was ≡ option_to_list given ++ now → All (λ (e : Triple). IsTrue (points e.point)) was → IsWithin points given × All (λ (e : Triple). IsTrue (points e.point)) now
list_gives_within points None was now is all = (tt, subst (All (λ (e : Triple). IsTrue (points e.point))) is all)
list_gives_within points (Some entry) was now is all =
    let these = subst (All (λ (e : Triple). IsTrue (points e.point))) is all in
    (these 0 entry (omega arith), λ k d inside. these (suc k) d (omega (arith, inside)))
