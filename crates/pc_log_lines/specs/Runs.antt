-- The output of a log's lines, and the reasons why not all of them go out.
use Rattle.std.specs.Prelude.{◌≡◌, ◌⊎◌, ℕ, List, Option, IsOk}
use Rattle.std.specs.declared.result.Result.{Result}
use Rattle.std.specs.Io.KnownBytes.{Appends}
use Rattle.pc_io.specs.Counted.{AppendsBeginning, HasRisen}
use Rattle.pc_io.specs.Tallies.{failures_of, inner_of}
use Rattle.pc_types.specs.declared.refusal.Refusal.{Refusal}
use Rattle.pc_types.specs.declared.refusal.Refusal.TheVariants.{OutOfMemory, Device}
use Rattle.pc_io.specs.declared.tally.Tally.{Tally}
use Rattle.pc_texts.specs.Files.{HoldsBytes, IsUnread, TellsOf, refusal_of}
use Rattle.pc_log_lines.specs.declared.reading.EntryRange.{EntryRange}
use Rattle.pc_log_lines.specs.declared.run.LostLog.{LostLog}
use Rattle.pc_log_lines.specs.declared.run.LostLog.TheVariants as lost
use Rattle.pc_log_lines.specs.Lines.{log_lines, log_status}

-- all of a text went out, and no call failed
abbrev pub PutsAll : {T : Type 0} → (T → Option (List ℕ)) → Tally T → Tally T → List ℕ → Type 0
PutsAll contents old new text = Appends (contents (inner_of old)) (contents (inner_of new)) text × (failures_of new ≡ failures_of old)

-- a prefix of a text went out: an allocation failed, and no call failed, or the device failed
abbrev pub IsTextCutOff : {T : Type 0} → (T → Option (List ℕ)) → Tally T → Tally T → Refusal → List ℕ → Type 0
IsTextCutOff contents old new why text =
    AppendsBeginning (contents (inner_of old)) (contents (inner_of new)) text
    × (((why ≡ OutOfMemory) × (failures_of new ≡ failures_of old)) ⊎ ((why ≡ Device) × HasRisen (failures_of old) (failures_of new)))

-- all lines of the log went out, and the status says whether it has a fault; said if its bytes are known
abbrev pub PrintsLines : {R T : Type 0} → (R → Option (List ℕ)) → (T → Option (List ℕ)) → Result R Refusal → EntryRange → Tally T → Tally T → ℕ → Type 0
PrintsLines remaining contents opened range old new status = (bytes : List ℕ) → HoldsBytes remaining opened bytes →
    Appends (contents (inner_of old)) (contents (inner_of new)) (log_lines range bytes) × (status ≡ log_status bytes)

-- a prefix of the log's lines went out; said if its bytes are known
abbrev pub BeginsLines : {R T : Type 0} → (R → Option (List ℕ)) → (T → Option (List ℕ)) → Result R Refusal → EntryRange → Tally T → Tally T → Type 0
BeginsLines remaining contents opened range old new = (bytes : List ℕ) → HoldsBytes remaining opened bytes →
    AppendsBeginning (contents (inner_of old)) (contents (inner_of new)) (log_lines range bytes)

-- Why not all lines went out, and what went out then: the log can't be read, and nothing did; or a prefix, since an allocation
-- failed or the output failed, which was counted.
abbrev pub IsLogUnprinted : {R T : Type 0} → (R → Option (List ℕ)) → (T → Option (List ℕ)) → Result R Refusal → EntryRange → Tally T → Tally T → LostLog R → Type 0
IsLogUnprinted remaining contents opened range old new (lost.Unread why) = IsUnread opened why × (new ≡ old)
IsLogUnprinted remaining contents opened range old new lost.NoMemory = IsOk opened × BeginsLines remaining contents opened range old new
IsLogUnprinted remaining contents opened range old new lost.Output = IsOk opened × HasRisen (failures_of old) (failures_of new) × BeginsLines remaining contents opened range old new

-- the line of it on the error writer, if the log has this name; none for an output that failed
abbrev pub IsLostTold : {R T : Type 0} → (T → Option (List ℕ)) → Tally T → Tally T → List ℕ → LostLog R → Type 0
IsLostTold contents old new name (lost.Unread why) = TellsOf contents old new name (refusal_of why)
IsLostTold contents old new name lost.NoMemory = TellsOf contents old new name OutOfMemory
IsLostTold contents old new name lost.Output = new ≡ old
