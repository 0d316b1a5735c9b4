-- How the text of a part goes out in pieces.
use Rattle.std.specs.Prelude.{◌≡◌, ◌⊎◌, ℕ, List, ◌++◌, Option, Result, Ok, Err, length}
use Rattle.std.specs.Io.KnownBytes.{Appends}
use Rattle.std.specs.List.{flat_map}
use Rattle.pc_io.specs.Counted.{HasRisen, AppendsBeginning, AppendsPart}
use Rattle.pc_io.specs.Tallies.{inner_of, failures_of}
use Rattle.pc_types.specs.declared.Refusal.{Refusal}
use Rattle.pc_types.specs.declared.Refusal.TheVariants.{OutOfMemory, Device}
use Rattle.pc_io.specs.declared.tally.Tally.{Tally}
use Rattle.pc_part.specs.declared.ranges.Range.{Range}
use Rattle.pc_part.specs.Texts.{bounds_text, end_text, head_text}

-- the bytes that are kept of a text that goes out, and the number of its entries so far
pub record Writing : Type 0 where
  pub kept : List ℕ
  pub count : ℕ

-- the bytes before the entries
abbrev pub part_header_text : ℕ → List Range → List ℕ
part_header_text run ranges = head_text run (length ranges) ++ flat_map bounds_text ranges

-- an allocation failed, which no count shows, or the device failed
abbrev pub FailsFor : {T : Type 0} → Tally T → Tally T → Refusal → Type 0
FailsFor old new why = ((why ≡ OutOfMemory) × (failures_of new ≡ failures_of old)) ⊎ ((why ≡ Device) × HasRisen (failures_of old) (failures_of new))

-- A text comes after the bytes that are kept: a beginning of both goes out, and the rest is kept then.
abbrev pub WritesBuffered : {T : Type 0} → (T → Option (List ℕ)) → Tally T → Tally T → List ℕ → List ℕ → List ℕ → Result (Unit {0}) Refusal → Type 0
WritesBuffered contents old new kept kept_now text (Ok u) =
    (gone : List ℕ) × Appends (contents (inner_of old)) (contents (inner_of new)) gone × (gone ++ kept_now ≡ kept ++ text) × (failures_of new ≡ failures_of old)
WritesBuffered contents old new kept kept_now text (Err why) = FailsFor old new why × AppendsBeginning (contents (inner_of old)) (contents (inner_of new)) (kept ++ text)

-- The bytes that are kept go out with the end after them, or not all of that.
abbrev pub Ends : {T : Type 0} → (T → Option (List ℕ)) → Tally T → Tally T → List ℕ → ℕ → Result ℕ Refusal → Type 0
Ends contents old new kept count (Ok total) =
    (total ≡ count) × Appends (contents (inner_of old)) (contents (inner_of new)) (kept ++ end_text count) × (failures_of new ≡ failures_of old)
Ends contents old new kept count (Err why) = FailsFor old new why × AppendsPart (contents (inner_of old)) (contents (inner_of new)) (kept ++ end_text count)
