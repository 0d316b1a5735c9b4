-- A recovery of a folder: the texts of its files, its output, and why it may fail.
use Rattle.std.specs.Prelude.{◌≡◌, ◌≢◌, ◌⊎◌, ℕ, List, [], ◌∷◌, ◌++◌, Option, Some, map, codes, Ok, Err, is_ok, IsOk, IfErr, ⊤}
use Rattle.std.specs.declared.result.Result.{Result}
use Rattle.std.specs.Global.{Vec}
use Rattle.std.specs.Io.KnownBytes.{Appends}
use Rattle.pc_types.specs.declared.refusal.Refusal.{Refusal}
use Rattle.pc_types.specs.declared.refusal.Refusal.TheVariants as refusal
use Rattle.pc_types.specs.declared.refusal.Refusal.TheVariants.{OutOfMemory, NoFile}
use Rattle.pc_io.specs.Counted.{HasRisen, AppendsBeginning}
use Rattle.pc_io.specs.Tallies.{Puts, inner_of, failures_of}
use Rattle.pc_io.specs.declared.tally.Tally.{Tally}
use Rattle.pc_recover.specs.Recovery.{Recovery, recovery}
use Rattle.pc_restore.specs.declared.recovery.Folder.{Folder}
use Rattle.pc_texts.specs.declared.files.NamedFile.{NamedFile}
use Rattle.pc_restore.specs.declared.reading.PartBytes.{PartBytes}
use Rattle.pc_restore.specs.declared.recovery.Lost.{Lost}
use Rattle.pc_restore.specs.declared.recovery.Lost.TheVariants as lost
use Rattle.pc_restore.specs.declared.lacks.Lacks.{Lacks}
use Rattle.pc_restore.specs.Lacks.{lacks_of}
use Rattle.pc_texts.specs.Files.{IsUnread, HoldsBytes, AreOpened, TellsOf, line_about, refusal_of}
use Rattle.pc_texts.specs.declared.files.Unread.{Unread}
use Rattle.pc_texts.specs.declared.files.Unread.TheVariants as unread

-- the names of the parts, in their order
abbrev pub names_of : List PartBytes → List (List ℕ)
names_of parts = map (λ (part : PartBytes). part.name.items) parts

-- the bytes of the parts, in their order
abbrev pub bytes_of : List PartBytes → List (List ℕ)
bytes_of parts = map (λ (part : PartBytes). part.bytes.items) parts

-- a log holds these bytes; one that doesn't exist holds none
abbrev pub HoldsLog : {R : Type 0} → (R → Option (List ℕ)) → Result R Refusal → List ℕ → Type 0
HoldsLog remaining (Ok reader) bytes = remaining reader ≡ Some bytes
HoldsLog remaining (Err why) bytes = (why ≡ NoFile) × (bytes ≡ [])

-- files of these names hold these bytes, each its own
abbrev pub HoldEach : {R : Type 0} → (R → Option (List ℕ)) → List (NamedFile R) → List (List ℕ) → List (List ℕ) → Type 0
HoldEach remaining [] [] [] = ⊤
HoldEach remaining (file ∷ files) (name ∷ names) (bytes ∷ parts) = (file.name.items ≡ name) × HoldsBytes remaining file.opened bytes × HoldEach remaining files names parts
HoldEach remaining files names parts = ⊥

-- the parts of a folder that could be listed
abbrev pub HoldParts : {R : Type 0} → (R → Option (List ℕ)) → Result (Vec (NamedFile R)) Refusal → List (List ℕ) → List (List ℕ) → Type 0
HoldParts remaining (Ok files) names parts = HoldEach remaining files.items names parts
HoldParts remaining (Err why) names parts = ⊥

-- the folder holds this base, these parts by their names, and this log
pub record HoldsAll {R : Type 0} (remaining : R → Option (List ℕ)) (folder : Folder R) (base : List ℕ) (names parts : List (List ℕ)) (log : List ℕ) : Type 0 where
  pub base_holds : HoldsBytes remaining folder.base base
  pub parts_hold : HoldParts remaining folder.parts names parts
  pub log_holds : HoldsLog remaining folder.log log

-- the parts were listed, and each of them was opened
abbrev pub ArePartsOpened : {R : Type 0} → Result (Vec (NamedFile R)) Refusal → Type 0
ArePartsOpened (Ok files) = AreOpened files.items
ArePartsOpened (Err why) = ⊥

-- the log was opened, or doesn't exist
abbrev pub IsLogOpened : {R : Type 0} → Result R Refusal → Type 0
IsLogOpened opened = IfErr opened (λ why. why ≡ NoFile)

-- every file of the folder was opened
abbrev pub AreAllOpened : {R : Type 0} → Folder R → Type 0
AreAllOpened folder = IsOk folder.base × ArePartsOpened folder.parts × IsLogOpened folder.log

-- why a log can't be read: it can't be opened or read; it is no fault if it doesn't exist
abbrev pub IsLogFault : {R : Type 0} → Result R Refusal → Unread R → Type 0
IsLogFault opened why = IsUnread opened why × (why ≢ unread.Absent NoFile)

-- the first of the files that can't be read has this name: each before it was opened, and it can't be opened or read
abbrev pub IsFirstLost : {R : Type 0} → List (NamedFile R) → List ℕ → Unread R → Type 0
IsFirstLost {R} files name why =
    (before : List (NamedFile R)) × (file : NamedFile R) × (behind : List (NamedFile R))
    × (files ≡ before ++ file ∷ behind) × AreOpened before × (file.name.items ≡ name) × IsUnread file.opened why

-- reading the files fails at one of them, or because an allocation failed
abbrev pub IsEachLost : {R : Type 0} → List (NamedFile R) → Lost R → Type 0
IsEachLost files (lost.Part name why) = IsFirstLost files name.items why
IsEachLost files (lost.Folder why) = why ≡ OutOfMemory
IsEachLost files other = ⊥

-- the same of files that may not have been listed
abbrev pub IsListLost : {R : Type 0} → Result (Vec (NamedFile R)) Refusal → Lost R → Type 0
IsListLost (Ok files) cause = IsEachLost files.items cause
IsListLost (Err why) cause = cause ≡ lost.Folder why

-- Why not all files of the folder were read. A fault is the cause only if all files before it were opened: first of the base, then
-- of the list of the parts or of one of them, and last of the log.
abbrev pub IsFolderUnread : {R : Type 0} → Folder R → Lost R → Type 0
IsFolderUnread folder (lost.Base why) = IsUnread folder.base why
IsFolderUnread folder (lost.Part name why) = IsOk folder.base × IsListLost folder.parts (lost.Part name why)
IsFolderUnread folder (lost.Log why) = IsOk folder.base × ArePartsOpened folder.parts × IsLogFault folder.log why
IsFolderUnread folder (lost.Folder why) = IsOk folder.base × IsListLost folder.parts (lost.Folder why)
IsFolderUnread folder other = ⊥

-- The refusals of the rules of recovery: a fault of a base's bytes or of a log's header; a log of another run; or parts that can't
-- be joined, or applied to the base.
abbrev pub IsRulesRefusal : Refusal → Type 0
IsRulesRefusal refusal.Short = ⊤
IsRulesRefusal refusal.BadMagic = ⊤
IsRulesRefusal refusal.BadRanges = ⊤
IsRulesRefusal refusal.BadLength = ⊤
IsRulesRefusal refusal.KeyOrder = ⊤
IsRulesRefusal refusal.Trailing = ⊤
IsRulesRefusal refusal.OtherRun = ⊤
IsRulesRefusal refusal.Conflict = ⊤
IsRulesRefusal refusal.Full = ⊤
IsRulesRefusal (refusal.Gap point) = ⊤
IsRulesRefusal other = ⊥

-- the rules refuse the files' bytes, or an allocation failed
abbrev pub IsRecoveryRefused : {R : Type 0} → (R → Option (List ℕ)) → Folder R → Refusal → Type 0
IsRecoveryRefused remaining folder why =
    (why ≡ OutOfMemory) ⊎ (IsRulesRefusal why × ((base : List ℕ) (names parts : List (List ℕ)) (log : List ℕ) → HoldsAll remaining folder base names parts log → recovery base parts log ≡ Err why))

-- Why nothing was recovered: not all files were read; or they were, and the rules refuse their bytes; or last the output failed.
-- Damage of the folder prevents no recovery.
abbrev pub IsLost : {R : Type 0} → (R → Option (List ℕ)) → Folder R → Lost R → Type 0
IsLost remaining folder (lost.Folder why) = IsFolderUnread folder (lost.Folder why) ⊎ (AreAllOpened folder × IsRecoveryRefused remaining folder why)
IsLost remaining folder lost.Output = AreAllOpened folder
IsLost remaining folder other = IsFolderUnread folder other

-- the recovered state of the folder was printed: all of the text that is printed of it by these names went out; said if the files'
-- bytes are known
abbrev pub PrintsAll : {R T : Type 0} → (R → Option (List ℕ)) → (T → Option (List ℕ)) → (List (List ℕ) → Recovery → List ℕ) → Folder R → Tally T → Tally T → Type 0
PrintsAll remaining contents printed folder old new = (base : List ℕ) (names parts : List (List ℕ)) (log : List ℕ) → HoldsAll remaining folder base names parts log →
    (found : Recovery) × (recovery base parts log ≡ Ok found) × Appends (contents (inner_of old)) (contents (inner_of new)) (printed names found)

-- these are the gaps of a recovery of the folder; said if the files' bytes are known
abbrev pub IsLacking : {R : Type 0} → (R → Option (List ℕ)) → Folder R → Lacks → Type 0
IsLacking remaining folder lacks = (base : List ℕ) (names parts : List (List ℕ)) (log : List ℕ) → HoldsAll remaining folder base names parts log →
    (found : Recovery) × (recovery base parts log ≡ Ok found) × (lacks ≡ lacks_of (is_ok folder.log) parts log found)

-- a beginning of that text went out, and nothing else; said if the files' bytes are known
abbrev pub PrintsInPart : {R T : Type 0} → (R → Option (List ℕ)) → (T → Option (List ℕ)) → (List (List ℕ) → Recovery → List ℕ) → Folder R → Tally T → Tally T → Type 0
PrintsInPart remaining contents printed folder old new = (base : List ℕ) (names parts : List (List ℕ)) (log : List ℕ) → HoldsAll remaining folder base names parts log →
    (found : Recovery) × (recovery base parts log ≡ Ok found) × AppendsBeginning (contents (inner_of old)) (contents (inner_of new)) (printed names found)

-- the output if nothing was recovered: a beginning if the output failed, which was counted, and otherwise nothing
abbrev pub GoesOutUnrecovered : {R T : Type 0} → (R → Option (List ℕ)) → (T → Option (List ℕ)) → (List (List ℕ) → Recovery → List ℕ) → Folder R → Tally T → Tally T → Lost R → Type 0
GoesOutUnrecovered remaining contents printed folder old new lost.Output = HasRisen (failures_of old) (failures_of new) × PrintsInPart remaining contents printed folder old new
GoesOutUnrecovered remaining contents printed folder old new other = new ≡ old

-- the line of a reason by a name
abbrev pub reason_text : List ℕ → List ℕ → List ℕ
reason_text name reason = line_about name reason

-- it is reported, as far as the writer takes it
abbrev pub TellsReason : {T : Type 0} → (T → Option (List ℕ)) → Tally T → Tally T → List ℕ → List ℕ → Type 0
TellsReason contents old new name reason = (told : Result (Unit {0}) Refusal) × Puts contents old new told (reason_text name reason)

-- the report on the error writer, if the folder has this name: the name of the file or the folder, and the reason; nothing for a
-- fault of the output
abbrev pub IsRecoveryTold : {R T : Type 0} → (T → Option (List ℕ)) → Tally T → Tally T → List ℕ → Lost R → Type 0
IsRecoveryTold contents old new dir (lost.Base why) = TellsOf contents old new (codes "base.pcb") (refusal_of why)
IsRecoveryTold contents old new dir (lost.Part name why) = TellsOf contents old new name.items (refusal_of why)
IsRecoveryTold contents old new dir (lost.Log why) = TellsOf contents old new (codes "log.pcl") (refusal_of why)
IsRecoveryTold contents old new dir (lost.Folder why) = TellsOf contents old new dir why
IsRecoveryTold contents old new dir lost.Damaged = TellsReason contents old new dir (codes "Damaged")
IsRecoveryTold contents old new dir lost.Output = new ≡ old
