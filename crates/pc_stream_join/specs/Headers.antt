-- The headers of parts that are joined, and the header of their join.
use Rattle.std.specs.Prelude.{◌≡◌, ◌⊎◌, ◌≤◌, ◌==◌, ◌||◌, not, Bool, true, false, ℕ, zero, suc, List, [], ◌∷◌, Option, Some, None, Result, Ok, Err, length, map, if◌then◌else◌, ⊤}
use Rattle.std.specs.List.{All, list_any}
use Rattle.pc_io.specs.Fields.{◌>>=◌}
use Rattle.pc_types.specs.declared.Refusal.{Refusal}
use Rattle.pc_types.specs.declared.Refusal.TheVariants.{OutOfMemory, Device, NoFile, OtherRun}
use Rattle.pc_model.specs.Sets as set
use Rattle.pc_model.specs.Sets.{Set, number_order}
use Rattle.pc_part.specs.declared.ranges.Range.{Range}
use Rattle.pc_part.specs.Parts.{AreRanges, points_of}
use Rattle.pc_stream_join.specs.declared.headers.RunsSeen.{RunsSeen}
use Rattle.pc_streams.specs.declared.reader.PartReader.{PartReader}
use Rattle.pc_streams.specs.Readers.{KeepsToRanges, StaysKnown, coming_of, header_of, ranges_read, reads_within, standing_of}
use Rattle.pc_streams.specs.Refusals.{IsReadRefusal}

-- the headers of all, or the refusal of the first that has one
abbrev pub all_headers : List (Result (ℕ × List Range) Refusal) → Result (List (ℕ × List Range)) Refusal
all_headers [] = Ok []
all_headers (header ∷ headers) = header >>= λ first. all_headers headers >>= λ others. Ok (first ∷ others)

-- why parts of these headers have no join: there are none, or two are of different runs
abbrev pub runs_fault : List ℕ → Option Refusal
runs_fault [] = Some NoFile
runs_fault (run ∷ others) = if list_any (λ other. not (other == run)) others then Some OtherRun else None

-- the runs of parts so far, in order: the first one, and whether another one is of another run
abbrev pub runs_seen : List ℕ → RunsSeen
runs_seen [] = record { first = None; differ = false }
runs_seen (run ∷ others) = record { first = Some run; differ = list_any (λ other. not (other == run)) others }

-- the same with one more of this run
abbrev pub with_run : Option ℕ → Bool → ℕ → RunsSeen
with_run None differ run = record { first = Some run; differ = false }
with_run (Some first) differ run = record { first = Some first; differ = differ || not (run == first) }

-- the run of all
abbrev pub run_of_all : Option ℕ → Bool → Result ℕ Refusal
run_of_all None differ = Err NoFile
run_of_all (Some run) true = Err OtherRun
run_of_all (Some run) false = Ok run

-- the same if headers may be refused
abbrev pub headers_fault : Result (List (ℕ × List Range)) Refusal → Option Refusal
headers_fault (Err why) = Some why
headers_fault (Ok headers) = runs_fault (map (λ header. header.0) headers)

-- Why there is no header of all: an allocation failed, a device failed, or, if the headers of all are known, the first of these.
abbrev pub IsHeadersFault : List (Option (Result (ℕ × List Range) Refusal)) → Refusal → Type 0
IsHeadersFault known why =
    (why ≡ OutOfMemory) ⊎ (why ≡ Device) ⊎ ((headers : List (Result (ℕ × List Range) Refusal)) → known ≡ map Some headers → headers_fault (all_headers headers) ≡ Some why)

-- the headers of all were read, and two are of different runs
abbrev pub HaveTwoRuns : {R : Type 0} → (R → Option (List ℕ)) → List (PartReader R) → Type 0
HaveTwoRuns remaining inputs =
    (headers : List (ℕ × List Range)) × (map (header_of remaining) inputs ≡ map (λ header. Some (Ok header)) headers) × (headers_fault (Ok headers) ≡ Some OtherRun)

-- The possible refusals of inputs, whether their headers are known or not: NoFile if there are none, OtherRun once all headers are
-- read and two are of different runs, and those of a reader.
abbrev pub IsHeadersRefusal : {R : Type 0} → (R → Option (List ℕ)) → List (PartReader R) → List (PartReader R) → Refusal → Type 0
IsHeadersRefusal remaining was now why = ((why ≡ NoFile) × (was ≡ [])) ⊎ ((why ≡ OtherRun) × HaveTwoRuns remaining now) ⊎ IsReadRefusal why

-- the ranges that were read of each have gaps between them
abbrev pub AreApart : {R : Type 0} → List (PartReader R) → Type 0
AreApart inputs = All (λ input. AreRanges (ranges_read input)) inputs

-- the points of all
abbrev pub points_of_all : List (ℕ × List Range) → Set number_order
points_of_all [] = set.empty
points_of_all (header ∷ headers) = set.union (points_of header.1) (points_of_all headers)

-- The header of the join of parts with these headers: they are of one run, and its points are those of all.
pub record IsHeaderOfAll (run : ℕ) (ranges : List Range) (headers : List (ℕ × List Range)) : Type 0 where
  pub some : 1 ≤ length headers
  pub one_run : All (λ header. header.0 ≡ run) headers
  pub apart : AreRanges ranges
  pub points : points_of ranges ≡ points_of_all headers

-- The header of an input was read: it is of this run. Known facts of it stay, and nothing was refused; all its further entries are
-- of its points.
pub record IsHeaderRead {R : Type 0} (remaining : R → Option (List ℕ)) (was now : PartReader R) (run : ℕ) : Type 0 where
  pub told : header_of remaining now ≡ Some (Ok (run, ranges_read now))
  pub apart : AreRanges (ranges_read now)
  pub header : StaysKnown (header_of remaining was) (header_of remaining now)
  pub coming : StaysKnown (coming_of remaining was) (coming_of remaining now)
  pub stands : standing_of now ≡ standing_of was
  pub within : KeepsToRanges now (ranges_read now)

-- the same of the first `count` inputs; nothing was read of the others
abbrev pub AreReadTo : {R : Type 0} → (R → Option (List ℕ)) → ℕ → List (PartReader R) → List (PartReader R) → List ℕ → Type 0
AreReadTo remaining zero was now runs = (now ≡ was) × (runs ≡ [])
AreReadTo remaining (suc count) (first ∷ was) (first_now ∷ now) (run ∷ runs) = IsHeaderRead remaining first first_now run × AreReadTo remaining count was now runs
AreReadTo remaining (suc count) was now runs = ⊥

-- The header of each input is read, and this is the header of their join, to whose points all of them keep.
pub record AreHeaded {R : Type 0} (remaining : R → Option (List ℕ)) (run : ℕ) (ranges : List Range) (inputs : List (PartReader R)) : Type 0 where
  pub headers : List (ℕ × List Range)
  pub read : map (header_of remaining) inputs ≡ map (λ header. Some (Ok header)) headers
  pub of_all : IsHeaderOfAll run ranges headers
  pub within : All (λ input. reads_within input (set.contains (points_of ranges))) inputs

-- known facts of each input stay: its header, and its further entries
abbrev pub StayKnown : {R : Type 0} → (R → Option (List ℕ)) → List (PartReader R) → List (PartReader R) → Type 0
StayKnown remaining [] [] = ⊤
StayKnown remaining (was ∷ inputs) (now ∷ inputs_now) =
    StaysKnown (header_of remaining was) (header_of remaining now) × StaysKnown (coming_of remaining was) (coming_of remaining now) × StayKnown remaining inputs inputs_now
StayKnown remaining inputs inputs_now = ⊥

-- The headers of all were read, and they are those of one join, of this run and of these ranges.
pub record WereHeaded {R : Type 0} (remaining : R → Option (List ℕ)) (inputs : List (PartReader R)) : Type 0 where
  pub run : ℕ
  pub ranges : List Range
  pub read : List (PartReader R)
  pub stays : StayKnown remaining inputs read
  pub headed : AreHeaded remaining run ranges read

-- if the headers of all were read, and two are of different runs, this is what is refused
abbrev pub NamesOtherRun : {R : Type 0} → (R → Option (List ℕ)) → List (PartReader R) → List (PartReader R) → Refusal → Type 0
NamesOtherRun remaining was now why = (runs : List ℕ) → AreReadTo remaining (length was) was now runs → runs_fault runs ≡ Some OtherRun → why ≡ OtherRun

-- the points of the ranges that each has read
abbrev pub points_read : {R : Type 0} → List (PartReader R) → Set number_order
points_read [] = set.empty
points_read (input ∷ inputs) = set.union (points_of (ranges_read input)) (points_read inputs)

-- ranges, or none yet
abbrev pub MayBeRanges : List Range → Type 0
MayBeRanges ranges = (ranges ≡ []) ⊎ AreRanges ranges
