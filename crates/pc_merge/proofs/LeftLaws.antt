-- What is left of inputs of which first entries were drawn.
use Rattle.std.proofs.Common.{◌≡◌, ℕ, zero, suc, ◌<◌, List, [], ◌∷◌, Option, Some, None, length, set, get_or, ⊎_elim, refl, sym, ap, ◌∙◌, arith}
use Rattle.std.proofs.lemmas.Bool.{cases_lt}
use Rattle.std.proofs.lemmas.List.{ext_get_or, get_or-map, get_or_past, length-map}
use Rattle.pc_types.specs.declared.Triple.{Triple}
use Rattle.pc_types.specs.declared.Refusal.{Refusal}
use Rattle.pc_merge.specs.Coming.{Coming, ended, after_entry}
use Rattle.pc_merge.specs.Drawing.{input_at}
use Rattle.pc_merge.specs.Inputs.{known_with, all_known, rest_of_input, each_left, all_left, if_ended, coming_at}
use Rattle.pc_merge.specs.Merging.{first_to_come, firsts_of}
use Rattle.pc_merge.specs.Tournaments.{first_entry_at}

-- ---- if all is known

record IsKnown (input : Option Coming) (inputs : Option (List Coming)) (was : List Coming) : Type 0 where
  one : Coming
  others : List Coming
  one_is : input ≡ Some one
  others_are : inputs ≡ Some others
  are : was ≡ one ∷ others

known_parts : (input : Option Coming) (inputs : Option (List Coming)) (was : List Coming) → known_with input inputs ≡ Some was → IsKnown input inputs was
known_parts None inputs was e = cc
known_parts (Some one) None was e = cc
known_parts (Some one) (Some others) was e = record { one = one; others = others; one_is = refl; others_are = refl; are = cc }

pub known_length : (inputs : List (Option Coming)) (was : List Coming) → all_known inputs ≡ Some was → length was ≡ length inputs
known_length [] was e = let is : was ≡ [] = cc in rw is refl
known_length (input ∷ inputs) was e =
    let parts = known_parts input (all_known inputs) was e in
    ap length parts.are ∙ ap suc (known_length inputs parts.others parts.others_are)

pub known_at : (inputs : List (Option Coming)) (was : List Coming) (place : ℕ) → all_known inputs ≡ Some was → place < length inputs → coming_at inputs place ≡ Some (input_at was place)
known_at [] was place e within = absurd (omega arith)
known_at (input ∷ inputs) was zero e within =
    let parts = known_parts input (all_known inputs) was e in
    parts.one_is ∙ ap (λ (all : List Coming). Some (get_or all 0 ended)) (sym parts.are)
known_at (input ∷ inputs) was (suc place) e within =
    let parts = known_parts input (all_known inputs) was e in
    known_at inputs parts.others place parts.others_are (omega arith) ∙ ap (λ (all : List Coming). Some (get_or all (suc place) ended)) (sym parts.are)

known_set : (inputs : List (Option Coming)) (was : List Coming) (place : ℕ) (now : Coming) → all_known inputs ≡ Some was → all_known (set inputs place (Some now)) ≡ Some (set was place now)
known_set [] was place now e = let is : was ≡ [] = cc in rw is refl
known_set (input ∷ inputs) was zero now e =
    let parts = known_parts input (all_known inputs) was e in
    ap (known_with (Some now)) parts.others_are ∙ ap (λ (all : List Coming). Some (set all 0 now)) (sym parts.are)
known_set (input ∷ inputs) was (suc place) now e =
    let parts = known_parts input (all_known inputs) was e in
    ap (known_with input) (known_set inputs parts.others place now parts.others_are)
    ∙ ap (λ i. known_with i (Some (set parts.others place now))) parts.one_is
    ∙ ap (λ (all : List Coming). Some (set all (suc place) now)) (sym parts.are)

-- if each is known all are
pub known_each : (inputs : List (Option Coming)) (was : List Coming) → length was ≡ length inputs → ((place : ℕ) → place < length inputs → coming_at inputs place ≡ Some (input_at was place)) → all_known inputs ≡ Some was
known_each [] [] size each = refl
known_each [] (one ∷ was) size each = absurd (omega arith)
known_each (input ∷ inputs) [] size each = absurd (omega arith)
known_each (input ∷ inputs) (one ∷ was) size each =
    ap (known_with input) (known_each inputs was (omega arith) (λ place within. each (suc place) (omega arith)))
    ∙ ap (λ i. known_with i (Some was)) (each 0 (omega arith))

-- ---- each input beside its first entry

each_left_at : (inputs : List (Option Coming)) (firsts : List (Option Triple)) (place : ℕ) → length inputs ≡ length firsts → coming_at (each_left inputs firsts) place ≡ rest_of_input (first_entry_at firsts place) (coming_at inputs place)
each_left_at [] [] place size = refl
each_left_at [] (first ∷ firsts) place size = absurd (omega arith)
each_left_at (input ∷ inputs) [] place size = absurd (omega arith)
each_left_at (input ∷ inputs) (first ∷ firsts) zero size = refl
each_left_at (input ∷ inputs) (first ∷ firsts) (suc place) size = each_left_at inputs firsts place (omega arith)

each_left_length : (inputs : List (Option Coming)) (firsts : List (Option Triple)) → length inputs ≡ length firsts → length (each_left inputs firsts) ≡ length inputs
each_left_length [] firsts size = refl
each_left_length (input ∷ inputs) [] size = absurd (omega arith)
each_left_length (input ∷ inputs) (first ∷ firsts) size = ap suc (each_left_length inputs firsts (omega arith))

each_left_set : (inputs : List (Option Coming)) (firsts : List (Option Triple)) (place : ℕ) (input : Option Coming) (first : Option Triple) → length inputs ≡ length firsts → each_left (set inputs place input) (set firsts place first) ≡ set (each_left inputs firsts) place (rest_of_input first input)
each_left_set [] [] place c f size = refl
each_left_set [] (first ∷ firsts) place c f size = absurd (omega arith)
each_left_set (input ∷ inputs) [] place c f size = absurd (omega arith)
each_left_set (input ∷ inputs) (first ∷ firsts) zero c f size = refl
each_left_set (input ∷ inputs) (first ∷ firsts) (suc place) c f size = ap (λ (all : List (Option Coming)). rest_of_input first input ∷ all) (each_left_set inputs firsts place c f (omega arith))

-- ---- all that is left

module _ (inputs : List (Option Coming)) (firsts : List (Option Triple)) (was : List Coming) (size : length inputs ≡ length firsts) (left : all_left inputs firsts ≡ Some was) where
  pub left_length : length was ≡ length inputs
  left_length = known_length (each_left inputs firsts) was left ∙ each_left_length inputs firsts size

  pub left_at : (place : ℕ) → place < length inputs → rest_of_input (first_entry_at firsts place) (coming_at inputs place) ≡ Some (input_at was place)
  left_at place within = sym (each_left_at inputs firsts place size) ∙ known_at (each_left inputs firsts) was place left (rw (each_left_length inputs firsts size) within)

  pub left_set : (place : ℕ) (input : Option Coming) (first : Option Triple) (now : Coming) → rest_of_input first input ≡ Some now → all_left (set inputs place input) (set firsts place first) ≡ Some (set was place now)
  left_set place input first now is =
      ap all_known (each_left_set inputs firsts place input first size ∙ ap (set (each_left inputs firsts) place) is)
      ∙ known_set (each_left inputs firsts) was place now left

pub left_each : (inputs : List (Option Coming)) (firsts : List (Option Triple)) (now : List Coming) → length inputs ≡ length firsts → length now ≡ length inputs → ((place : ℕ) → place < length inputs → rest_of_input (first_entry_at firsts place) (coming_at inputs place) ≡ Some (input_at now place)) → all_left inputs firsts ≡ Some now
left_each inputs firsts now size many each =
    let same = each_left_length inputs firsts size in
    known_each (each_left inputs firsts) now (many ∙ sym same) (λ place within. each_left_at inputs firsts place size ∙ each place (omega (arith, same, within)))

pub none_left : (entries : List Triple) (fault : Option Refusal) (was : Coming) → if_ended entries fault ≡ Some was → was ≡ ended
none_left [] None was is = cc
none_left [] (Some why) was is = cc
none_left (entry ∷ entries) fault was is = cc

-- what is left of an input whose first entry was drawn
pub record IsDrawn (entry : Triple) (input : Option Coming) (was : Coming) : Type 0 where
  pub rest : Coming
  pub known : input ≡ Some rest
  pub are : was ≡ after_entry entry rest

pub drawn_first : (entry : Triple) (input : Option Coming) (was : Coming) → rest_of_input (Some entry) input ≡ Some was → IsDrawn entry input was
drawn_first entry None was is = cc
drawn_first entry (Some rest) was is = record { rest = rest; known = refl; are = cc }

pub first_left : (first : Option Triple) (input : Option Coming) (was : Coming) → rest_of_input first input ≡ Some was → first_to_come was ≡ first
first_left None (Some input) was is = ap first_to_come (none_left input.entries input.fault was is)
first_left None None was is = cc
first_left (Some entry) None was is = cc
first_left (Some entry) (Some input) was is = let same : was ≡ after_entry entry input = cc in ap first_to_come same

module _ (inputs : List (Option Coming)) (firsts : List (Option Triple)) (was : List Coming) (size : length inputs ≡ length firsts) (left : all_left inputs firsts ≡ Some was) where
  -- the first entry of what is left is at the input's place
  pub first_at : (place : ℕ) → first_to_come (input_at was place) ≡ first_entry_at firsts place
  first_at place = ⊎_elim
      (λ (less : place < length inputs). first_left (first_entry_at firsts place) (coming_at inputs place) (input_at was place) (left_at inputs firsts was size left place less))
      (λ more.
      let many = left_length inputs firsts was size left in
      ap first_to_come (get_or_past was place ended (omega (arith, many, more))) ∙ sym (get_or_past firsts place None (omega (arith, size, more))))
      (cases_lt place (length inputs))

  pub firsts_are : firsts_of was ≡ firsts
  firsts_are =
      let many = left_length inputs firsts was size left in
      let mapped = length-map was first_to_come in
      ext_get_or None (firsts_of was) firsts (omega (arith, many, size, mapped)) (λ place within. get_or-map first_to_come was place ended None (omega (arith, mapped, within)) ∙ first_at place)
