-- The answers of a merge.
use Rattle.std.proofs.Common.{◌≡◌, ℕ, ◌<◌, false, true, List, [], ◌∷◌, ◌++◌, Option, Some, None, Result, Ok, Err, length, inr, refl, sym, ap, ◌∙◌, subst, arith}
use Rattle.std.specs.Prelude.{IsErr, IsErrAnd, MatchResult}
use Rattle.std.proofs.lemmas.List.{get_or_default}
use Rattle.pc_types.specs.declared.Refusal.{Refusal}
use Rattle.pc_types.specs.declared.Refusal.TheVariants.{Full}
use Rattle.pc_types.specs.declared.limits.TheConstants.{MOST_FILE_ENTRIES}
use Rattle.pc_types.specs.declared.Triple.{Triple}
use Rattle.pc_merge.specs.Coming.{Coming, ended}
use Rattle.pc_merge.specs.Drawing.{ArePassing, input_at}
use Rattle.pc_merge.specs.Given.{HasGiven, IsCauseOfAll, IsMerge}
use Rattle.pc_merge.specs.Inputs.{all_left, coming_at, rest_of_input}
use Rattle.pc_merge.specs.Merging.{AreEnded, GivesFirst, MergesNext, IsBelow, IsCause, all_behind}
use Rattle.pc_merge.specs.Tournaments.{first_entry_at, HasNoEntries, IsLeast, IsNoLater}
use Rattle.pc_merge.proofs.GivenLaws.{causes_stand, ends_are_merges, given_grows}
use Rattle.pc_merge.proofs.LeftLaws.{first_at, left_at, left_length, none_left}
use Rattle.pc_merge.proofs.NewestLaws.{all_passed, gives_first}

abbrev pub Answer : Type 0
Answer = Result (Option Triple) Refusal

abbrev pub gives : Option Triple → Answer
gives next = Ok next

abbrev pub refuses : Refusal → Answer
refuses why = Err why

none_of : (first : Option Triple) (input : Option Coming) (was : Coming) → rest_of_input first input ≡ Some was → first ≡ None → was ≡ ended
none_of None (Some input) was is none = none_left input.entries input.fault was is
none_of None None was is none = cc
none_of (Some entry) input was is none = cc

module _ (inputs : List (Option Coming)) (firsts : List (Option Triple)) (size : length inputs ≡ length firsts) where
  all_ended : (was : List Coming) → all_left inputs firsts ≡ Some was → HasNoEntries firsts → AreEnded was
  all_ended was left free place other within =
      let many = left_length inputs firsts was size left in
      let less : place < length inputs = omega (arith, many, within) in
      sym (get_or_default was place ended other within) ∙ none_of (first_entry_at firsts place) (coming_at inputs place) (input_at was place) (left_at inputs firsts was size left place less) (free place)

  -- if there is no entry at any place, all have ended
  pub goes_to_its_end : HasNoEntries firsts → MergesNext (all_left inputs firsts) (all_left inputs firsts) (gives None)
  goes_to_its_end free = by (all_left inputs firsts) refl
    where
      by : (left : Option (List Coming)) → all_left inputs firsts ≡ left → MergesNext left left (gives None)
      by None is = tt
      by (Some was) is = (all_ended was is free, refl)

-- a refusal for a cause, handed on
pub goes_wrong : (left now : Option (List Coming)) (why : Refusal) (r : Answer) → IsErr r × IsErrAnd r (λ e. e ≡ why) → ((was : List Coming) → left ≡ Some was → IsCause was why) → MergesNext left now r
goes_wrong None now why r is cause = tt
goes_wrong (Some was) now why (Ok next) is cause = let bad : false ≡ true = is.0 in absurd cc
goes_wrong (Some was) now why (Err e) is cause = subst (IsCause was) (sym is.1) (cause was refl)

-- the entry at the least place is no later than any
pub stands_first : (firsts : List (Option Triple)) (place : ℕ) (entry : Triple) → IsLeast firsts place → first_entry_at firsts place ≡ Some entry → (p : ℕ) → IsNoLater (Some entry) (first_entry_at firsts p)
stands_first firsts place entry least there p = subst (λ (f : Option Triple). IsNoLater f (first_entry_at firsts p)) there (least.least p)

-- all of the key are passed: the newest is given
pub goes_on_with : (left : Option (List Coming)) (inputs : List (Option Coming)) (firsts : List (Option Triple)) (newest : Triple) → length inputs ≡ length firsts → ((place : ℕ) → IsBelow newest.key (first_entry_at firsts place)) → ((was : List Coming) → left ≡ Some was → ArePassing was inputs firsts newest) → MergesNext left (all_left inputs firsts) (gives (Some newest))
goes_on_with None inputs firsts newest size above passing = tt
goes_on_with (Some was) inputs firsts newest size above passing = by (passing was refl)
  where
    by : ArePassing was inputs firsts newest → GivesFirst was newest × (all_left inputs firsts ≡ Some (all_behind newest.key was))
    by (now, left, is) =
        let each = λ (p : ℕ). subst (IsBelow newest.key) (sym (first_at inputs firsts now size left p)) (above p) in
        (gives_first was now newest is each, left ∙ ap (λ (cs : List Coming). Some cs) (all_passed was now newest is each))

-- a refusal says of what is left nothing
pub still_wrong : {X : Type 0} (P R : X → Type 0) (Q : Refusal → Type 0) (result : Result X Refusal) (why : Refusal) → result ≡ Err why → MatchResult result P Q → MatchResult result R Q
still_wrong P R Q (Ok x) why is told = let mistaken = is in absurd cc
still_wrong P R Q (Err e) why is told = told

-- ---- all entries

-- a merge has given these entries, if it is known what is left
pub record IsUnderWay (start : List Coming) (given : List Triple) (left : Option (List Coming)) : Type 0 where
  pub now : List Coming
  pub known : left ≡ Some now
  pub has : HasGiven start given now

module _ (start : List Coming) (given : List Triple) (left then : Option (List Coming)) (way : IsUnderWay start given left) where
  goes : (r : Answer) → MergesNext left then r → MergesNext (Some way.now) then r
  goes r = subst (λ l. MergesNext l then r) way.known

  pub way_on : (entry : Triple) → MergesNext left then (gives (Some entry)) → IsUnderWay start (given ++ entry ∷ []) then
  way_on entry on = let step = goes (gives (Some entry)) on in record { now = all_behind entry.key way.now; known = step.1; has = given_grows start given way.now entry way.has step.0 }

  pub way_end : MergesNext left then (gives None) → IsMerge start given
  way_end on = ends_are_merges start given way.now way.has (goes (gives None) on).0

  pub way_wrong : (why : Refusal) → (let r : Answer = Err why in MergesNext left then r) → IsCause start why
  way_wrong why on = causes_stand start given way.now why way.has (goes (Err why) on)

-- more entries were given than a file can have
pub too_many : (start : List Coming) (given : List Triple) (left : Option (List Coming)) → IsUnderWay start given left → MOST_FILE_ENTRIES < length given → IsCauseOfAll start Full
too_many start given left way many = inr (refl, (given, way.now, way.has, many))
