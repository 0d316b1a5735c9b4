-- The entries that a merge has given since it began, and those until all inputs have ended.
use Rattle.std.specs.Prelude.{◌≡◌, ◌⊎◌, ◌<◌, ℕ, List, [], ◌∷◌, ◌++◌, Option, Some, None, length, map, ⊤}
use Rattle.std.specs.List.{All}
use Rattle.pc_types.specs.declared.Refusal.{Refusal}
use Rattle.pc_types.specs.declared.Refusal.TheVariants.{Full}
use Rattle.pc_types.specs.declared.limits.TheConstants.{MOST_FILE_ENTRIES}
use Rattle.pc_types.specs.declared.Triple.{Triple}
use Rattle.pc_model.specs.Database.{KeysRise}
use Rattle.pc_model.specs.Maps as map_of
use Rattle.pc_model.specs.Points.{AtPoint, Triples, joined}
use Rattle.pc_model.specs.TripleLists.{map_entries, triples_of}
use Rattle.pc_merge.specs.Coming.{Coming}
use Rattle.pc_merge.specs.Merging.{GivesFirst, AreEnded, IsCause, all_behind}

-- the merge of inputs has given these entries, in order, and this is left of the inputs
abbrev pub HasGiven : List Coming → List Triple → List Coming → Type 0
HasGiven start [] left = start ≡ left
HasGiven start (entry ∷ given) left = GivesFirst start entry × HasGiven (all_behind entry.key start) given left

-- the join of all
abbrev pub joined_all : List Triples → Triples
joined_all [] = map_of.empty
joined_all (triples ∷ others) = joined triples (joined_all others)

-- what a key has in one set of triples is older than what it has in another, or the same; it may have nothing in the first
abbrev pub IsUnderAt : Option AtPoint → Option AtPoint → Type 0
IsUnderAt None there = ⊤
IsUnderAt (Some a) None = ⊥
IsUnderAt (Some a) (Some b) = (a.point < b.point) ⊎ (a ≡ b)

-- the same of each key
abbrev pub IsUnder : Triples → Triples → Type 0
IsUnder m n = (key : List ℕ) → IsUnderAt (map_of.get m key) (map_of.get n key)

-- The entries are the merge of the inputs: they ascend by key and are the join of all; what a key has in one of the inputs is
-- older than what it has in them, or the same, so that no two inputs differ at a key's greatest point. All inputs ascend by key
-- and end without a refusal.
pub record IsMerge (inputs : List Coming) (given : List Triple) : Type 0 where
  pub rise : KeysRise (map_entries given)
  pub joined : triples_of given ≡ joined_all (map (λ input. triples_of input.entries) inputs)
  pub over : All (λ input. IsUnder (triples_of input.entries) (triples_of given)) inputs
  pub inputs_rise : All (λ input. KeysRise (map_entries input.entries)) inputs
  pub no_fault : All (λ input. input.fault ≡ None) inputs

-- more entries are given than a file can have
abbrev pub HasTooMany : List Coming → Type 0
HasTooMany inputs = (given : List Triple) × (left : List Coming) × HasGiven inputs given left × (MOST_FILE_ENTRIES < length given)

-- why not all entries of a merge are given: a cause for which it is refused, or there are too many
abbrev pub IsCauseOfAll : List Coming → Refusal → Type 0
IsCauseOfAll inputs why = IsCause inputs why ⊎ ((why ≡ Full) × HasTooMany inputs)

-- The entries that a merge has given until all inputs have ended are the merge of them.
abbrev pub EndsAreMerges : Type 0
EndsAreMerges = (start : List Coming) (given : List Triple) (left : List Coming) → HasGiven start given left → AreEnded left → IsMerge start given

-- With each entry that a merge gives it has given one more.
abbrev pub GivenGrows : Type 0
GivenGrows = (start : List Coming) (given : List Triple) (left : List Coming) (entry : Triple) → HasGiven start given left → GivesFirst left entry → HasGiven start (given ++ entry ∷ []) (all_behind entry.key left)

-- A cause that follows from what is left of inputs follows from the inputs.
abbrev pub CausesStand : Type 0
CausesStand = (start : List Coming) (given : List Triple) (left : List Coming) (why : Refusal) → HasGiven start given left → IsCause left why → IsCause start why
