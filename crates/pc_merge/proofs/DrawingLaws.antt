-- An input is drawn on.
use Rattle.std.proofs.Common.{◌≡◌, ◌≢◌, ℕ, ◌+◌, ◌<◌, ◌≤◌, Bool, true, false, cond, List, ◌∷◌, Option, Some, None, Result, Ok, Err, length, set, inl, inr, ⊎_elim, refl, sym, ap, ◌∙◌, subst, arith, length-set}
use Rattle.std.specs.Prelude.{MatchResult, IsErr, IsErrAnd, IfErr}
use Rattle.std.specs.List.{Contains}
use Rattle.std.specs.Ordering.{is_lt}
use Rattle.std.specs.FinMap.{is_sorted}
use Rattle.std.specs.FinMap.Entries.{below_all}
use Rattle.std.proofs.lemmas.Bool.{cases_eq}
use Rattle.std.proofs.lemmas.Cmp.{eq_by_cmp_equiv}
use Rattle.std.proofs.lemmas.List.{get_or_default, get_or-set_same, get_or-set_other}
use Rattle.pc_types.specs.declared.Refusal.{Refusal}
use Rattle.pc_types.specs.declared.Refusal.TheVariants.{KeyOrder}
use Rattle.pc_types.specs.declared.Triple.{Triple}
use Rattle.pc_model.specs.Database.{key_cmp, key_order, same_bytes, KeysRise}
use Rattle.pc_model.specs.TripleLists.{map_entries}
use Rattle.pc_model.proofs.RisingLaws.{both, is_less}
use Rattle.pc_merge.specs.Coming.{Coming, ended, after_entry, GivesNext}
use Rattle.pc_merge.specs.Drawing.{DrawsOneInput, AreFirstsDrawn, Rises, input_at}
use Rattle.pc_merge.specs.Inputs.{all_known, rest_of_input, all_left, coming_at}
use Rattle.pc_merge.specs.Merging.{HasFault, IsBelow, IsCause, input_after_key}
use Rattle.pc_merge.specs.Tournaments.{first_entry_at}
use Rattle.pc_merge.proofs.LeftLaws.{known_at, known_length, left_at, left_each, left_length, left_set, drawn_first, IsDrawn}

abbrev Answer : Type 0
Answer = Result (Option Triple) Refusal

abbrev answers : Option Triple → Answer
answers next = Ok next

abbrev refuses : Refusal → Answer
refuses why = Err why

-- an input that is known gives what it has left
drawn_left : (was : Coming) (now : Option Coming) (next : Option Triple) → GivesNext (Some was) now (answers next) → rest_of_input next now ≡ Some was
drawn_left was None next g = absurd g
drawn_left was (Some now) None g = rw g.1 (ap (λ (c : Coming). Some c) (sym g.0))
drawn_left was (Some now) (Some entry) g = ap (λ (c : Coming). Some c) (sym g)

-- the input is among those that were left
among : (was : List Coming) (place : ℕ) → place < length was → Contains was (input_at was place)
among was place within = (place, within, get_or_default was place (input_at was place) ended within)

-- a refusal that is known is what the input ends in, or memory or a device failed
drawn_cause : (was : List Coming) (input : Coming) (now : Option Coming) (why : Refusal) → GivesNext (Some input) now (refuses why) → ((fault : Option Refusal) → input.fault ≡ fault → fault ≡ Some why → HasFault was why) → IsCause was why
drawn_cause was input None why (inl is) fault = inr (inr (inl (fault (Some why) (ap (λ (c : Coming). c.fault) is) refl)))
drawn_cause was input None why (inr (inl memory)) fault = inl memory
drawn_cause was input None why (inr (inr device)) fault = inr (inl device)
drawn_cause was input (Some now) why (inl is) fault = inr (inr (inl (fault (Some why) (ap (λ (c : Coming). c.fault) is) refl)))
drawn_cause was input (Some now) why (inr (inl memory)) fault = inl memory
drawn_cause was input (Some now) why (inr (inr device)) fault = inr (inl device)

-- ---- the first entries

module _ (inputs now : List (Option Coming)) (firsts : List (Option Triple)) (place : ℕ) (was : List Coming) (within : place < length inputs) (opened : AreFirstsDrawn inputs firsts place was) where
  here : coming_at inputs place ≡ Some (input_at was place)
  here = opened.others place within (omega arith)

  pub opened_more : (next : Option Triple) → length inputs ≡ length firsts → DrawsOneInput inputs now place (answers next) → AreFirstsDrawn now (set firsts place next) (place + 1) was
  opened_more next size draws = rw draws.1 (record {
    many = opened.many ∙ sym (length-set inputs place draws.0);
    drawn = λ p in_inputs before. ⊎_elim
        (λ (same : p ≡ place). rw (same, get_or-set_same firsts place next None (omega (arith, size, within)), get_or-set_same inputs place draws.0 None within) (drawn_left (input_at was place) draws.0 next gives))
        (λ apart. rw (get_or-set_other firsts place p next None apart, get_or-set_other inputs place p draws.0 None apart) (opened.drawn p (kept in_inputs) (omega (arith, before, apart))))
        (cases_eq p place);
    others = λ p in_inputs behind.
        let apart : p ≢ place = omega (arith, behind) in
        get_or-set_other inputs place p draws.0 None apart ∙ opened.others p (kept in_inputs) (omega (arith, behind));
  })
    where
      gives : GivesNext (Some (input_at was place)) draws.0 (answers next)
      gives = subst (λ c. GivesNext c draws.0 (answers next)) here draws.2

      kept : {p : ℕ} → p < length (set inputs place draws.0) → p < length inputs
      kept {p} less = let same = length-set inputs place draws.0 in omega (arith, same, less)

  pub opened_cause : (why : Refusal) → DrawsOneInput inputs now place (refuses why) → IsCause was why
  opened_cause why draws = drawn_cause was (input_at was place) draws.0 why (subst (λ c. GivesNext c draws.0 (refuses why)) here draws.2)
      (λ fault is end. let many = opened.many in (input_at was place, among was place (omega (arith, many, within)), is ∙ end))

pub opened_all : (inputs : List (Option Coming)) (firsts : List (Option Triple)) (was : List Coming) (count : ℕ) → length inputs ≡ length firsts → length inputs ≤ count → AreFirstsDrawn inputs firsts count was → all_left inputs firsts ≡ Some was
opened_all inputs firsts was count size all opened = left_each inputs firsts was size opened.many (λ place within. opened.drawn place within (omega (arith, all, within)))

-- ---- refusals that are handed on

pub handed_on : {X : Type 0} (P : X → Type 0) (Q : Refusal → Type 0) (why : Refusal) (r : Result X Refusal) → IsErr r × IsErrAnd r (λ e. e ≡ why) → Q why → MatchResult r P Q
handed_on P Q why (Ok x) is cause = let bad : false ≡ true = is.0 in absurd cc
handed_on P Q why (Err e) is cause = subst Q (sym is.1) cause

pub handed_cause : {X : Type 0} (Q : Refusal → Type 0) (why : Refusal) (r : Result X Refusal) → IsErr r × IsErrAnd r (λ e. e ≡ why) → Q why → IfErr r Q
handed_cause Q why (Ok x) is cause = tt
handed_cause Q why (Err e) is cause = subst Q (sym is.1) cause

-- ---- the beginning

pub opened_begins : (inputs : List (Option Coming)) (firsts : List (Option Triple)) (was : List Coming) → all_known inputs ≡ Some was → AreFirstsDrawn inputs firsts 0 was
opened_begins inputs firsts was known = record {
  many = known_length inputs was known;
  drawn = λ place within none. absurd (omega arith);
  others = λ place within some. known_at inputs was place known within;
}

-- ---- one input is passed

pub some_entry : (first : Option Triple) → first ≢ None → (entry : Triple) × (first ≡ Some entry)
some_entry None some = absurd (some refl)
some_entry (Some entry) some = (entry, refl)

same_itself : (key : List ℕ) → same_bytes key key ≡ true
same_itself key = (eq_by_cmp_equiv key_order.total).refl key

behind_own : (entry : Triple) (rest : Coming) → input_after_key entry.key (after_entry entry rest) ≡ rest
behind_own entry rest = ap (λ (b : Bool). record { entries = cond b rest.entries (entry ∷ rest.entries); fault = rest.fault }) (same_itself entry.key)

-- a test that tells what is below
pub risen : (entry : Triple) (next : Option Triple) → Rises (Some entry) next true → IsBelow entry.key next
risen entry None is = tt
risen entry (Some next) is = is_less (key_cmp entry.key next.key) (sym is)

not_risen : (entry next : Triple) (entries : List Triple) → is_lt (key_cmp entry.key next.key) ≡ false → KeysRise (map_entries (entry ∷ next ∷ entries)) → ⊥
not_risen entry next entries test rise =
    let parts = both (below_all key_cmp entry.key (map_entries (next ∷ entries))) (is_sorted key_cmp (map_entries (next ∷ entries))) rise in
    let less = both (is_lt (key_cmp entry.key next.key)) (below_all key_cmp entry.key (map_entries entries)) parts.0 in
    let bad = sym test ∙ less.0 in cc

module _ (inputs now : List (Option Coming)) (firsts : List (Option Triple)) (place : ℕ) (was : List Coming) (entry : Triple) (size : length inputs ≡ length firsts) (within : place < length inputs) (left : all_left inputs firsts ≡ Some was) (stands : first_entry_at firsts place ≡ Some entry) where
  drawn : IsDrawn entry (coming_at inputs place) (input_at was place)
  drawn = drawn_first entry (coming_at inputs place) (input_at was place) (subst (λ first. rest_of_input first (coming_at inputs place) ≡ Some (input_at was place)) stands (left_at inputs firsts was size left place within))

  gives : (result : Answer) → (draws : DrawsOneInput inputs now place result) → GivesNext (Some drawn.rest) draws.0 result
  gives result draws = subst (λ c. GivesNext c draws.0 result) drawn.known draws.2

  in_was : Contains was (input_at was place)
  in_was = let many = left_length inputs firsts was size left in among was place (omega (arith, many, within))

  pub passed_left : (next : Option Triple) → DrawsOneInput inputs now place (answers next) → all_left now (set firsts place next) ≡ Some (set was place (input_after_key entry.key (input_at was place)))
  passed_left next draws =
      ap (λ all. all_left all (set firsts place next)) draws.1
      ∙ left_set inputs firsts was size left place draws.0 next drawn.rest (drawn_left drawn.rest draws.0 next (gives (answers next) draws))
      ∙ ap (λ (c : Coming). Some (set was place c)) (sym (ap (input_after_key entry.key) drawn.are ∙ behind_own entry drawn.rest))

  pub passed_cause : (why : Refusal) → DrawsOneInput inputs now place (refuses why) → IsCause was why
  passed_cause why draws = drawn_cause was drawn.rest draws.0 why (gives (refuses why) draws) (λ fault is end. (input_at was place, in_was, ap (λ (c : Coming). c.fault) drawn.are ∙ is ∙ end))

  follows : (next : Triple) (after : Option Coming) → GivesNext (Some drawn.rest) after (answers (Some next)) → (rest : Coming) × (drawn.rest ≡ after_entry next rest)
  follows next None g = absurd g
  follows next (Some rest) g = (rest, g)

  order_at : (next : Option Triple) → DrawsOneInput inputs now place (answers next) → Rises (Some entry) next false → IsCause was KeyOrder
  order_at None draws rises = cc
  order_at (Some next) draws rises =
      let behind = follows next draws.0 (gives (answers (Some next)) draws) in
      inr (inr (inr (inr (
        refl,
        (
          input_at was place,
          in_was,
          λ rise. not_risen entry next behind.0.entries (sym rises)
              (subst (λ (c : Coming). KeysRise (map_entries c.entries)) (drawn.are ∙ ap (after_entry entry) behind.1) rise),
        ),
      ))))

-- a test that fails tells that keys don't ascend
pub order_cause : (inputs now : List (Option Coming)) (firsts : List (Option Triple)) (place : ℕ) (was : List Coming) (next : Option Triple) → length inputs ≡ length firsts → place < length inputs → all_left inputs firsts ≡ Some was → DrawsOneInput inputs now place (answers next)
    → first_entry_at firsts place ≢ None → Rises (first_entry_at firsts place) next false → IsCause was KeyOrder
order_cause inputs now firsts place was next size within left draws some rises =
    let first = some_entry (first_entry_at firsts place) some in
    order_at inputs now firsts place was first.0 size within left first.1 next draws (subst (λ (f : Option Triple). Rises f next false) first.1 rises)
