-- The steps of a merge: inputs are drawn on, and the newest entry of a key is kept.
use Rattle.std.specs.Prelude.{◌≡◌, ◌⊎◌, ◌<◌, ◌≤◌, ℕ, Bool, true, false, List, length, ◌++◌, Option, Some, None, Result, MatchResult, slice_index_or, slice_set}
use Rattle.std.specs.List.{Contains}
use Rattle.std.specs.Ordering.{is_lt}
use Rattle.pc_types.specs.declared.Refusal.{Refusal}
use Rattle.pc_types.specs.declared.Triple.{Triple}
use Rattle.pc_model.specs.Database.{key_cmp, same_bytes}
use Rattle.pc_merge.specs.Coming.{Coming, ended, GivesNext}
use Rattle.pc_merge.specs.Inputs.{all_left, coming_at, rest_of_input}
use Rattle.pc_merge.specs.Merging.{IsBelow, IsBest, IsCause, all_behind, input_after_key, first_to_come, firsts_of}
use Rattle.pc_merge.specs.Tournaments.{first_entry_at}

-- one input answers, and the others stay
abbrev pub DrawsOneInput : List (Option Coming) → List (Option Coming) → ℕ → Result (Option Triple) Refusal → Type 0
DrawsOneInput was now place result = (input : Option Coming) × (now ≡ slice_set was place input) × GivesNext (coming_at was place) input result

-- what is left of the input at a place
abbrev pub input_at : List Coming → ℕ → Coming
input_at inputs place = slice_index_or inputs place ended

-- the refusal has a cause in what was left
abbrev pub HasCause : List (Option Coming) → List (Option Triple) → Refusal → Type 0
HasCause inputs firsts why = (was : List Coming) → all_left inputs firsts ≡ Some was → IsCause was why

-- The entry was first at the place; now the next one of its input is there, of a greater key.
pub record Passes (firsts firsts_now : List (Option Triple)) (place : ℕ) (entry : Triple) : Type 0 where
  pub first : first_entry_at firsts place ≡ Some entry
  pub next : Option Triple
  pub stands : firsts_now ≡ slice_set firsts place next
  pub rises : IsBelow entry.key next

-- the entry was taken from the input at the place, of which what is after its key is left
abbrev pub HasPassed : List (Option Coming) → List (Option Triple) → List (Option Coming) → List (Option Triple) → ℕ → Triple → Type 0
HasPassed inputs firsts inputs_now firsts_now place entry =
    (was : List Coming) → all_left inputs firsts ≡ Some was → all_left inputs_now firsts_now ≡ Some (slice_set was place (input_after_key entry.key (input_at was place)))

-- what is left of an input is the rest of what was
pub record IsRest (was now : Coming) : Type 0 where
  pub front : List Triple
  pub entries : was.entries ≡ front ++ now.entries
  pub fault : was.fault ≡ now.fault

-- each input that is left is the rest of the one that was
pub record AreRests (was now : List Coming) : Type 0 where
  pub many : length now ≡ length was
  pub each : (place : ℕ) → IsRest (input_at was place) (input_at now place)

-- an input stays as it was, or was passed: it began with an entry that is no better than this one, and goes on with greater keys
abbrev pub StaysOrPassed : Triple → Coming → Coming → Type 0
StaysOrPassed entry was now = (now ≡ was) ⊎ (IsBest entry (first_to_come was) × IsBelow entry.key (first_to_come now))

-- Some of the inputs were passed, and this is the newest of their entries of one key.
pub record IsPassing (was now : List Coming) (entry : Triple) : Type 0 where
  pub of : Contains (firsts_of was) (Some entry)
  pub each : (place : ℕ) → StaysOrPassed entry (input_at was place) (input_at now place)
  pub behind : all_behind entry.key now ≡ all_behind entry.key was
  pub rests : AreRests was now

-- the same of what is left, as far as it is known
abbrev pub ArePassing : List Coming → List (Option Coming) → List (Option Triple) → Triple → Type 0
ArePassing was inputs firsts entry = (now : List Coming) × (all_left inputs firsts ≡ Some now) × IsPassing was now entry

-- if inputs were passing at the first entry, they are at the newest one, or there is a cause in what was
abbrev pub GoOnPassing : List (Option Coming) → List (Option Triple) → Triple → List (Option Coming) → List (Option Triple) → Result Triple Refusal → Type 0
GoOnPassing inputs firsts first inputs_now firsts_now result =
    (was : List Coming) → ArePassing was inputs firsts first → MatchResult result (ArePassing was inputs_now firsts_now) (IsCause was)

-- a test answers whether the next entry, if there is one, is of a greater key than the first one
abbrev pub Rises : Option Triple → Option Triple → Bool → Type 0
Rises (Some first) (Some next) result = result ≡ is_lt (key_cmp first.key next.key)
Rises first next result = result ≡ true

-- Of the first inputs, whose number is given, the first entries were drawn, and of the others none: this is left of all.
pub record AreFirstsDrawn (inputs : List (Option Coming)) (firsts : List (Option Triple)) (count : ℕ) (was : List Coming) : Type 0 where
  pub many : length was ≡ length inputs
  pub drawn : (place : ℕ) → place < length inputs → place < count → rest_of_input (first_entry_at firsts place) (coming_at inputs place) ≡ Some (input_at was place)
  pub others : (place : ℕ) → place < length inputs → count ≤ place → coming_at inputs place ≡ Some (input_at was place)

-- the entry, if there is one, is of the key
abbrev pub has_key : List ℕ → Option Triple → Bool
has_key key None = false
has_key key (Some entry) = same_bytes entry.key key
