-- The join of parts, written as they are read.
use Rattle.std.specs.Prelude.{◌≡◌, ◌≢◌, ◌⊎◌, ℕ, List, ◌++◌, Option, Some, None, Result, Ok, Err, length, map, ⊤}
use Rattle.std.specs.Io.KnownBytes.{Appends}
use Rattle.pc_io.specs.Counted.{HasRisen}
use Rattle.pc_io.specs.Tallies.{inner_of}
use Rattle.pc_types.specs.declared.Refusal.{Refusal}
use Rattle.pc_types.specs.declared.Refusal.TheVariants.{OutOfMemory, Device, Conflict, Full, Short}
use Rattle.pc_types.specs.declared.Triple.{Triple}
use Rattle.pc_io.specs.declared.tally.Tally.{Tally}
use Rattle.pc_model.specs.Database.{KeysRise}
use Rattle.pc_model.specs.Files.{File}
use Rattle.pc_model.specs.Sets as set
use Rattle.pc_model.specs.TripleLists.{map_entries}
use Rattle.pc_part.specs.declared.ranges.Range.{Range}
use Rattle.pc_part.specs.Lawful.{IsPartFile}
use Rattle.pc_part.specs.Reading.{part_at, part_of_fields}
use Rattle.pc_part.specs.Texts.{part_text}
use Rattle.pc_merge.specs.Coming.{Coming, Standing}
use Rattle.pc_merge.specs.Given.{HasTooMany, IsMerge}
use Rattle.pc_merge.specs.Inputs.{all_known}
use Rattle.pc_merge.specs.Merging.{HasFault, HaveConflict}
use Rattle.pc_merge.specs.Standings.{AllStand, HasFailed}
use Rattle.pc_streams.specs.declared.reader.PartReader.{PartReader}
use Rattle.pc_streams.specs.Readers.{coming_of, header_of}
use Rattle.pc_streams.specs.Refusals.{IsReadRefusal}
use Rattle.pc_stream_join.specs.Headers.{IsHeadersFault, IsHeadersRefusal, NamesOtherRun, WereHeaded}
use Rattle.pc_stream_join.specs.declared.join.Joined.{Joined}

-- the file of a run, ranges and entries
abbrev pub file_of_entries : ℕ → List Range → List Triple → File
file_of_entries run ranges entries = part_of_fields (record { run = run; ranges = ranges; entries = entries })

-- The text of a part of this run and these ranges was written, and it has this many entries; if the further entries of the inputs
-- are known, they are the merge of them.
pub record IsJoinWritten {R W : Type 0} (remaining : R → Option (List ℕ)) (contents : W → Option (List ℕ)) (run : ℕ) (ranges : List Range) (inputs : List (PartReader R)) (old new : Tally W) (count : ℕ) : Type 0 where
  pub given : List Triple
  pub rise : KeysRise (map_entries given)
  pub lawful : IsPartFile (file_of_entries run ranges given)
  pub text : Appends (contents (inner_of old)) (contents (inner_of new)) (part_text (file_of_entries run ranges given))
  pub many : count ≡ length given
  pub merge : (was : List Coming) → all_known (map (coming_of remaining) inputs) ≡ Some was → IsMerge was given

-- why the further entries of the inputs can't be joined to one text: an allocation or a device failed, one of the inputs ends in
-- that refusal, two have a key at one point with different contents, or there are too many entries
abbrev pub IsJoinCause : List Coming → Refusal → Type 0
IsJoinCause was why = (why ≡ OutOfMemory) ⊎ (why ≡ Device) ⊎ HasFault was why ⊎ ((why ≡ Conflict) × HaveConflict was) ⊎ ((why ≡ Full) × HasTooMany was)

-- the same if they may not be known
abbrev pub IsUnjoinedFor : {R : Type 0} → (R → Option (List ℕ)) → List (PartReader R) → Refusal → Type 0
IsUnjoinedFor remaining inputs why = (was : List Coming) → all_known (map (coming_of remaining) inputs) ≡ Some was → IsJoinCause was why

-- the possible refusals of inputs that have one header, whether their further entries are known or not: two that conflict, too many
-- entries, and those of a reader
abbrev pub IsJoinRefusal : Refusal → Type 0
IsJoinRefusal why = (why ≡ Conflict) ⊎ (why ≡ Full) ⊎ IsReadRefusal why

-- the text that was written, taken alone, is read as Short
abbrev pub LeavesShort : Option (List ℕ) → Option (List ℕ) → Type 0
LeavesShort None now = ⊤
LeavesShort (Some was) None = ⊥
LeavesShort (Some was) (Some now) = (written : List ℕ) × (now ≡ was ++ written) × (part_at written ≡ Err Short)

-- The counts of failures of the inputs and the output: Device is answered if one of them failed; otherwise no count has changed.
abbrev pub JoinStands : {X : Type 0} → List Standing → List Standing → ℕ → ℕ → Result X Refusal → Type 0
JoinStands {X} was now failures failures_now (Ok x) = (now ≡ was) × (failures_now ≡ failures)
JoinStands {X} was now failures failures_now (Err why) =
    (why ≡ Device → HasFailed was now ⊎ HasRisen failures failures_now) × (why ≢ Device → AllStand {X = X} was now (Err why) × (failures_now ≡ failures))

-- The join of the inputs was written, with this result: its points and the number of its entries.
pub record IsStreamJoined {R W : Type 0} (remaining : R → Option (List ℕ)) (contents : W → Option (List ℕ)) (inputs : List (PartReader R)) (old new : Tally W) (joined : Joined) : Type 0 where
  pub header : WereHeaded remaining inputs
  pub written : IsJoinWritten remaining contents header.run header.ranges header.read old new joined.entries
  pub points : joined.points ≡ set.items (file_of_entries header.run header.ranges written.given).points

-- Why no join is written: the inputs have no header together, or it couldn't be read, and the output is unchanged; or they have
-- one, and their further entries can't be joined.
abbrev pub IsStreamCause : {R W : Type 0} → (R → Option (List ℕ)) → List (PartReader R) → List (PartReader R) → Tally W → Tally W → Refusal → Type 0
IsStreamCause remaining inputs inputs_now old new why =
    (IsHeadersFault (map (header_of remaining) inputs) why × IsHeadersRefusal remaining inputs inputs_now why × NamesOtherRun remaining inputs inputs_now why × (new ≡ old))
    ⊎ (WereHeaded remaining inputs × IsUnjoinedFor remaining inputs why × IsJoinRefusal why)
