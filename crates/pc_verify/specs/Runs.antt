-- The output of a file's line.
use Rattle.std.specs.Prelude.{◌≡◌, ◌≢◌, ◌⊎◌, ℕ, Bool, true, List, Option, Some, None, Ok, Err}
use Rattle.std.specs.declared.result.Result.{Result}
use Rattle.pc_io.specs.Counted.{HasRisen}
use Rattle.pc_io.specs.Tallies.{Puts, failures_of}
use Rattle.pc_types.specs.declared.refusal.Refusal.{Refusal}
use Rattle.pc_types.specs.declared.refusal.Refusal.TheVariants.{OutOfMemory, Device}
use Rattle.pc_io.specs.declared.tally.Tally.{Tally}
use Rattle.pc_texts.specs.declared.files.NamedFile.{NamedFile}
use Rattle.pc_texts.specs.Files.{HoldsBytes}
use Rattle.pc_verify.specs.declared.findings.FileKind.{FileKind}
use Rattle.pc_verify.specs.declared.findings.Finding.{Finding}
use Rattle.pc_verify.specs.declared.findings.Finding.TheVariants as found
use Rattle.pc_verify.specs.Findings.{IsFinding, is_of_text, is_sound}
use Rattle.pc_verify.specs.Lines.{finding_line}

-- The finding about a file, with its reader if that failed: why it can't be opened, if not for memory; or `Device`, and the reader has counted the read that
-- failed; or what its bytes are, said if they are known.
abbrev pub IsFindingAbout : {R : Type 0} → (R → Option (List ℕ)) → FileKind → Result R Refusal → Option (Tally R) → Finding → Type 0
IsFindingAbout remaining kind (Err why) failed finding = (finding ≡ found.Unread why) × (failed ≡ None) × (why ≢ OutOfMemory)
IsFindingAbout remaining kind (Ok reader) (Some failed) finding = (finding ≡ found.Unread Device) × HasRisen 0 (failures_of failed)
IsFindingAbout remaining kind (Ok reader) None finding = (is_of_text finding ≡ true) × ((bytes : List ℕ) → HoldsBytes remaining (Ok reader) bytes → IsFinding kind bytes finding)

-- the line of what is found went out, and whether that is a whole text is answered
abbrev pub IsFindingPrinted : {R T : Type 0} → (R → Option (List ℕ)) → (T → Option (List ℕ)) → FileKind → NamedFile R → Tally T → Tally T → Option (Tally R) → Bool → Type 0
IsFindingPrinted remaining contents kind file old new failed sound =
    (finding : Finding) × IsFindingAbout remaining kind file.opened failed finding × (sound ≡ is_sound finding) × Puts contents old new (Ok tt) (finding_line file.name.items finding)

-- an allocation failed, and nothing went out; or the output failed, and the line went out in part
abbrev pub IsUntold : {R T : Type 0} → (R → Option (List ℕ)) → (T → Option (List ℕ)) → FileKind → NamedFile R → Tally T → Tally T → Refusal → Type 0
IsUntold {R} remaining contents kind file old new why = ((why ≡ OutOfMemory) × (new ≡ old))
    ⊎ ((failed : Option (Tally R)) × (finding : Finding) × IsFindingAbout remaining kind file.opened failed finding × Puts contents old new (Err why) (finding_line file.name.items finding))
