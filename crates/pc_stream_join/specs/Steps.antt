-- The state of a join while it is written.
use Rattle.std.specs.Prelude.{◌≡◌, ◌+◌, ◌≤◌, ◌<◌, ◌^◌, ℕ, Bool, true, false, List, ◌++◌, Option, Some, None, Result, Ok, Err, length, map}
use Rattle.std.specs.Io.KnownBytes.{Appends}
use Rattle.std.specs.List.{All, flat_map}
use Rattle.pc_io.specs.Tallies.{inner_of, failures_of}
use Rattle.pc_types.specs.declared.Refusal.{Refusal}
use Rattle.pc_types.specs.declared.Triple.{Triple}
use Rattle.pc_types.specs.declared.limits.TheConstants.{MOST_FILE_ENTRIES}
use Rattle.pc_io.specs.declared.tally.Tally.{Tally}
use Rattle.pc_model.specs.Database.{KeysRise}
use Rattle.pc_model.specs.Sets as set
use Rattle.pc_model.specs.TripleLists.{map_entries}
use Rattle.pc_part.specs.declared.ranges.Range.{Range}
use Rattle.pc_part.specs.Lawful.{HasLimits}
use Rattle.pc_part.specs.Parts.{AreCovered, AreRanges, points_of}
use Rattle.pc_part.specs.Texts.{triple_text}
use Rattle.pc_merge.specs.Coming.{Coming}
use Rattle.pc_merge.specs.Given.{HasGiven, IsMerge}
use Rattle.pc_merge.specs.Inputs.{all_known, left_in}
use Rattle.pc_merge.specs.Merging.{AreAbove, Merging}
use Rattle.pc_merge.specs.Standings.{AreWithin}
use Rattle.pc_streams.specs.declared.reader.PartReader.{PartReader}
use Rattle.pc_streams.specs.Readers.{coming_of, reads_within, standing_of}
use Rattle.pc_stream_join.specs.Joining.{IsJoinRefusal, IsJoinWritten, IsUnjoinedFor, JoinStands, LeavesShort}
use Rattle.pc_stream_join.specs.Writing.{Writing, part_header_text}

-- the arguments of the join: the run and the ranges of its header, the inputs, and the output
pub record Begun (R W : Type 0) : Type 0 where
  pub run : ℕ
  pub ranges : List Range
  pub inputs : List (PartReader R)
  pub out : Tally W

-- these entries were given, and the rest of the inputs is known
abbrev pub HasGivenLeft : List Coming → List Triple → Option (List Coming) → Type 0
HasGivenLeft was given known = (left : List Coming) × (known ≡ Some left) × HasGiven was given left

-- These entries are those of a file with the join's header, so far. A beginning of their text went out, and the rest is kept.
pub record IsSoFar {R W : Type 0} (contents : W → Option (List ℕ)) (begun : Begun R W) (given : List Triple) (writing : Writing) (out : Tally W) : Type 0 where
  pub run_fits : begun.run < 2 ^ 64
  pub apart : AreRanges begun.ranges
  pub rise : KeysRise (map_entries given)
  pub covered : AreCovered (points_of begun.ranges) given
  pub fit : All HasLimits given
  pub many : writing.count ≡ length given
  pub few : length given ≤ MOST_FILE_ENTRIES
  pub gone : List ℕ
  pub sent : Appends (contents (inner_of begun.out)) (contents (inner_of out)) gone
  pub text : gone ++ writing.kept ≡ part_header_text begun.run begun.ranges ++ flat_map triple_text given
  pub failures : failures_of out ≡ failures_of begun.out

-- A join on its way: the merge gave these entries, and they were written. Nothing was refused.
pub record IsJoining {R W : Type 0} (remaining : R → Option (List ℕ)) (contents : W → Option (List ℕ)) (begun : Begun R W) (inputs : List (PartReader R)) (merge : Merging) (writing : Writing) (out : Tally W) : Type 0 where
  pub given : List Triple
  pub so_far : IsSoFar contents begun given writing out
  pub above : All (λ entry. AreAbove entry.key merge.firsts) given
  pub stand : map standing_of inputs ≡ map standing_of begun.inputs
  pub within : AreWithin reads_within (set.contains (points_of begun.ranges)) inputs merge.firsts
  pub unrefused : merge.refused ≡ None
  pub known : (was : List Coming) → all_known (map (coming_of remaining) begun.inputs) ≡ Some was → HasGivenLeft was given (left_in (map (coming_of remaining) inputs) merge)

-- all was given and written, but for the end
pub record IsAllGiven {R W : Type 0} (remaining : R → Option (List ℕ)) (contents : W → Option (List ℕ)) (begun : Begun R W) (inputs : List (PartReader R)) (writing : Writing) (out : Tally W) : Type 0 where
  pub given : List Triple
  pub so_far : IsSoFar contents begun given writing out
  pub stand : map standing_of inputs ≡ map standing_of begun.inputs
  pub merged : (was : List Coming) → all_known (map (coming_of remaining) begun.inputs) ≡ Some was → IsMerge was given

-- the join was refused for a cause, and the text that it left is read as Short
pub record JoinFails {R W : Type 0} (remaining : R → Option (List ℕ)) (contents : W → Option (List ℕ)) (begun : Begun R W) (inputs : List (PartReader R)) (out : Tally W) (why : Refusal) : Type 0 where
  pub cause : IsUnjoinedFor remaining begun.inputs why
  pub refusal : IsJoinRefusal why
  pub short : LeavesShort (contents (inner_of begun.out)) (contents (inner_of out))
  pub stand : JoinStands {X = ℕ} (map standing_of begun.inputs) (map standing_of inputs) (failures_of begun.out) (failures_of out) (Err why)

-- one entry was written, or there is none, or the join was refused
abbrev pub StepsOn : {R W : Type 0} → (R → Option (List ℕ)) → (W → Option (List ℕ)) → Begun R W → ℕ → List (PartReader R) → Merging → Writing → Tally W → Result Bool Refusal → Type 0
StepsOn remaining contents begun count inputs merge writing out (Ok true) = IsJoining remaining contents begun inputs merge writing out × (writing.count ≡ count + 1)
StepsOn remaining contents begun count inputs merge writing out (Ok false) = IsAllGiven remaining contents begun inputs writing out
StepsOn remaining contents begun count inputs merge writing out (Err why) = JoinFails remaining contents begun inputs out why

-- the join was written, or refused
abbrev pub JoinEnds : {R W : Type 0} → (R → Option (List ℕ)) → (W → Option (List ℕ)) → Begun R W → List (PartReader R) → Tally W → Result ℕ Refusal → Type 0
JoinEnds remaining contents begun inputs out (Ok count) =
    IsJoinWritten remaining contents begun.run begun.ranges begun.inputs begun.out out count × JoinStands {X = ℕ} (map standing_of begun.inputs) (map standing_of inputs) (failures_of begun.out) (failures_of out) (Ok count)
JoinEnds remaining contents begun inputs out (Err why) = JoinFails remaining contents begun inputs out why
