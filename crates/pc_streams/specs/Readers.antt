-- The state of a reader of a part's text: the fields read, the entries to come, and the refusal.
use Rattle.std.specs.Prelude.{◌≡◌, ℕ, Bool, IsTrue, false, List, [], Option, Some, None, Result, Ok, Err, ◌⊎◌, ⊤}
use Rattle.std.specs.Option.{option_map}
use Rattle.pc_types.specs.declared.Refusal.{Refusal}
use Rattle.pc_types.specs.declared.Refusal.TheVariants.{OutOfMemory, Device}
use Rattle.pc_io.specs.declared.tally.Tally.{Tally}
use Rattle.pc_part.specs.declared.ranges.Range.{Range}
use Rattle.pc_io.specs.Tallies.{failures_of}
use Rattle.pc_part.specs.Parts.{covers}
use Rattle.pc_merge.specs.Coming.{Coming, Standing, refused}
use Rattle.pc_streams.specs.declared.reader.PartReader.{PartReader}
use Rattle.pc_streams.specs.declared.reader.PartStage.{PartStage}
use Rattle.pc_streams.specs.declared.reader.PartStage.TheVariants.{Unread, Among, Refused}
use Rattle.pc_streams.specs.Coming.{part_coming, part_header}
use Rattle.pc_streams.specs.Draws.{CountsFailures}
use Rattle.pc_streams.specs.Places.{place_coming}
use Rattle.pc_streams.specs.Sources.{text_left, tally_of}

-- what is to come in a stage, before bytes that may be known
abbrev pub stage_coming : PartStage → Option (List ℕ) → Option Coming
stage_coming Unread known = option_map part_coming known
stage_coming (Among place) known = place_coming place known
stage_coming (Refused why) known = Some (refused why)

-- the run and the ranges, or why they are refused
abbrev pub stage_header : PartStage → Option (List ℕ) → Option (Result (ℕ × List Range) Refusal)
stage_header Unread known = option_map part_header known
stage_header (Among place) known = Some (Ok (place.run, place.ranges))
stage_header (Refused why) known = Some (Err why)

-- the refusal that was answered
abbrev pub stage_refused : PartStage → Option Refusal
stage_refused (Refused why) = Some why
stage_refused stage = None

-- the ranges that were read
abbrev pub stage_ranges : PartStage → List Range
stage_ranges (Among place) = place.ranges
stage_ranges stage = []

-- the key of the last entry that was given, which is empty before the first
abbrev pub stage_last : PartStage → List ℕ
stage_last (Among place) = place.last
stage_last stage = []

-- whether the end was read
abbrev pub stage_over : PartStage → Bool
stage_over (Among place) = place.ended
stage_over stage = false

-- the counted reader
abbrev pub counted_by : {R : Type 0} → PartReader R → Tally R
counted_by reader = tally_of reader.source

-- what is to come of a reader
abbrev pub coming_of : {R : Type 0} → (R → Option (List ℕ)) → PartReader R → Option Coming
coming_of remaining reader = stage_coming reader.stage (text_left remaining reader.source)

-- its run and its ranges, if they are known
abbrev pub header_of : {R : Type 0} → (R → Option (List ℕ)) → PartReader R → Option (Result (ℕ × List Range) Refusal)
header_of remaining reader = stage_header reader.stage (text_left remaining reader.source)

-- what it refused
abbrev pub refused_of : {R : Type 0} → PartReader R → Option Refusal
refused_of reader = stage_refused reader.stage

-- the ranges that it has read
abbrev pub ranges_read : {R : Type 0} → PartReader R → List Range
ranges_read reader = stage_ranges reader.stage

-- the key of the last entry that it gave
abbrev pub last_given : {R : Type 0} → PartReader R → List ℕ
last_given reader = stage_last reader.stage

-- whether it has come to its end
abbrev pub has_ended : {R : Type 0} → PartReader R → Bool
has_ended reader = stage_over reader.stage

-- if a call was refused, each later call is refused so
abbrev pub Refuses : {X : Type 0} → Option Refusal → Option Refusal → Result X Refusal → Type 0
Refuses (Some why) now result = (result ≡ Err why) × (now ≡ Some why)
Refuses None now (Ok x) = now ≡ None
Refuses None now (Err why) = now ≡ Some why

-- failures are counted; if a refusal is returned again nothing is read
abbrev pub CountsOnce : {X T : Type 0} → Option Refusal → Tally T → Tally T → Result X Refusal → Type 0
CountsOnce None old new result = CountsFailures old new result
CountsOnce (Some why) old new result = new ≡ old

-- what a call answered is what is known of it; or memory or a device failed
abbrev pub AnswersAs : {X Y : Type 0} → (X → Y) → Option (Result Y Refusal) → Result X Refusal → Type 0
AnswersAs view None result = ⊤
AnswersAs view (Some known) (Ok x) = known ≡ Ok (view x)
AnswersAs view (Some known) (Err why) = (known ≡ Err why) ⊎ (why ≡ OutOfMemory) ⊎ (why ≡ Device)

-- what is known stays so
abbrev pub StaysKnown : {X : Type 0} → Option X → Option X → Type 0
StaysKnown None new = ⊤
StaysKnown (Some x) new = new ≡ Some x

-- the header is known, and has these ranges
abbrev pub TellsRanges : Option (Result (ℕ × List Range) Refusal) → List Range → Type 0
TellsRanges (Some (Ok header)) ranges = header.1 ≡ ranges
TellsRanges known ranges = ⊥

-- the state of a reader: what it refused, and how many of its calls failed
abbrev pub standing_of : {R : Type 0} → PartReader R → Standing
standing_of reader = record { refused = refused_of reader; failures = failures_of (counted_by reader) }

-- what is to come in a stage is of these points, whether its bytes are known or not; before the header is read that isn't said
abbrev pub stage_within : PartStage → (ℕ → Bool) → Type 0
stage_within Unread points = ⊥
stage_within (Among place) points = (point : ℕ) → IsTrue (covers place.ranges point) → IsTrue (points point)
stage_within (Refused why) points = ⊤

-- the same of a reader
abbrev pub reads_within : {R : Type 0} → PartReader R → (ℕ → Bool) → Type 0
reads_within reader points = stage_within reader.stage points

-- a reader keeps to the points of these ranges
abbrev pub KeepsToRanges : {R : Type 0} → PartReader R → List Range → Type 0
KeepsToRanges reader ranges = (points : ℕ → Bool) → ((point : ℕ) → IsTrue (covers ranges point) → IsTrue (points point)) → reads_within reader points
