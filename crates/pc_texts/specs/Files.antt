-- Files that may have been opened: their contents, and the report of a fault.
use Rattle.std.specs.Prelude.{◌≡◌, ℕ, List, ◌++◌, codes, Option, Some, Ok, Err, IsOk}
use Rattle.std.specs.declared.result.Result.{Result}
use Rattle.pc_types.specs.Names.{refusal_name}
use Rattle.pc_types.specs.declared.refusal.Refusal.{Refusal}
use Rattle.pc_types.specs.declared.refusal.Refusal.TheVariants.{OutOfMemory, Device}
use Rattle.pc_io.specs.Counted.{HasRisen}
use Rattle.pc_io.specs.Tallies.{Puts, failures_of}
use Rattle.pc_io.specs.declared.tally.Tally.{Tally}
use Rattle.std.specs.List.{All}
use Rattle.pc_texts.specs.declared.files.NamedFile.{NamedFile}
use Rattle.pc_texts.specs.declared.files.Unread.{Unread}
use Rattle.pc_texts.specs.declared.files.Unread.TheVariants as unread
use Rattle.pc_texts.specs.Texts.{printed_name}

-- a line about a file, by its name as printed
abbrev pub line_about : List ℕ → List ℕ → List ℕ
line_about name words = (codes "pcalc: " ++ printed_name name) ++ (codes ": " ++ (words ++ codes "\n"))

-- the error line of a command
abbrev pub report_text : List ℕ → Refusal → List ℕ
report_text name why = line_about name (refusal_name why)

-- The bytes of a file can't be had for this: it wasn't opened, and just why; or it was, and an allocation failed; or the device
-- failed in a read of it, which the reader that is handed back has counted, from 0.
abbrev pub IsUnread : {R : Type 0} → Result R Refusal → Unread R → Type 0
IsUnread opened (unread.Absent why) = opened ≡ Err why
IsUnread opened unread.NoMemory = IsOk opened
IsUnread opened (unread.Failed reader) = IsOk opened × HasRisen 0 (failures_of reader)

-- the refusal that reports it
abbrev pub refusal_of : {R : Type 0} → Unread R → Refusal
refusal_of (unread.Absent why) = why
refusal_of unread.NoMemory = OutOfMemory
refusal_of (unread.Failed reader) = Device

-- a file that was opened holds these bytes
abbrev pub HoldsBytes : {R : Type 0} → (R → Option (List ℕ)) → Result R Refusal → List ℕ → Type 0
HoldsBytes remaining (Ok reader) bytes = remaining reader ≡ Some bytes
HoldsBytes remaining (Err why) bytes = ⊥

-- each of these files was opened
abbrev pub AreOpened : {R : Type 0} → List (NamedFile R) → Type 0
AreOpened files = All (λ file. IsOk file.opened) files

-- a name and a reason are printed, as far as the writer takes them
abbrev pub TellsOf : {T : Type 0} → (T → Option (List ℕ)) → Tally T → Tally T → List ℕ → Refusal → Type 0
TellsOf contents old new name why = (told : Result (Unit {0}) Refusal) × Puts contents old new told (report_text name why)
