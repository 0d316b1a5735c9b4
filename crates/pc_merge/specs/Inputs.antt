-- The inputs of a merge, and the first entries that were drawn from them.
use Rattle.std.specs.Prelude.{◌≡◌, ℕ, List, [], ◌∷◌, Option, Some, None, length, option_map, replicate, slice_index_or}
use Rattle.pc_types.specs.declared.Refusal.{Refusal}
use Rattle.pc_types.specs.declared.Triple.{Triple}
use Rattle.pc_merge.specs.Coming.{Coming, ended, after_entry}
use Rattle.pc_merge.specs.Merging.{Merging}

-- what is to come, if it is known of the one and of the others
abbrev pub known_with : Option Coming → Option (List Coming) → Option (List Coming)
known_with (Some input) (Some inputs) = Some (input ∷ inputs)
known_with input inputs = None

-- what is to come of each, if it is known of all
abbrev pub all_known : List (Option Coming) → Option (List Coming)
all_known [] = Some []
all_known (input ∷ inputs) = known_with input (all_known inputs)

-- what is to come, if that is nothing
abbrev pub if_ended : List Triple → Option Refusal → Option Coming
if_ended [] None = Some ended
if_ended entries fault = None

-- The rest of an input: the entry that was drawn and those to come. If none was drawn, nothing is to come; otherwise
-- nothing is known.
abbrev pub rest_of_input : Option Triple → Option Coming → Option Coming
rest_of_input (Some entry) input = option_map (after_entry entry) input
rest_of_input None (Some input) = if_ended input.entries input.fault
rest_of_input None None = None

-- what is left of each input
abbrev pub each_left : List (Option Coming) → List (Option Triple) → List (Option Coming)
each_left (input ∷ inputs) (first ∷ firsts) = rest_of_input first input ∷ each_left inputs firsts
each_left inputs firsts = []

-- the same, if it is known of all
abbrev pub all_left : List (Option Coming) → List (Option Triple) → Option (List Coming)
all_left inputs firsts = all_known (each_left inputs firsts)

-- the merge of that many inputs, of which nothing was drawn
abbrev pub unopened : ℕ → Merging
unopened count = record { firsts = replicate count None; refused = None }

-- after a refusal nothing is known
abbrev pub left_unless : Option Refusal → Option (List Coming) → Option (List Coming)
left_unless None left = left
left_unless (Some why) left = None

-- what is left of each input of a merge, if that is known of all; after a refusal nothing is
abbrev pub left_in : List (Option Coming) → Merging → Option (List Coming)
left_in inputs merge = left_unless merge.refused (all_left inputs merge.firsts)

-- what is to come of the input at a place, if it is known
abbrev pub coming_at : List (Option Coming) → ℕ → Option Coming
coming_at inputs place = slice_index_or inputs place None

-- each input has a place, which has its first entry
abbrev pub AreTogether : List (Option Coming) → List (Option Triple) → Type 0
AreTogether inputs firsts = length inputs ≡ length firsts
