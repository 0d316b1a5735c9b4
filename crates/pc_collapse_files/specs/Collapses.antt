-- A collapse of part files: their texts, the file that it gives, its output, and why it may fail.
use Rattle.std.specs.Prelude.{◌≡◌, ◌⊎◌, ◌<◌, ℕ, Bool, List, [], ◌∷◌, ◌++◌, map, Option, Some, None, Result, Ok, Err, IsSome, MatchOption, codes, ⊤}
use Rattle.std.specs.Io.KnownBytes.{Appends}
use Rattle.std.specs.List.{list_any}
use Rattle.std.specs.Str.{bytes_eq}
use Rattle.pc_types.specs.declared.refusal.Refusal.{Refusal}
use Rattle.pc_types.specs.declared.refusal.Refusal.TheVariants.{OutOfMemory, Device, NoFile, OtherRun, Short}
use Rattle.pc_io.specs.declared.tally.Tally.{Tally}
use Rattle.pc_io.specs.Counted.{HasRisen, AppendsBeginning}
use Rattle.pc_io.specs.Fields.{◌>>=◌}
use Rattle.pc_io.specs.Tallies.{Puts, inner_of, failures_of}
use Rattle.pc_model.specs.Maps as map_of
use Rattle.pc_model.specs.Sets as set
use Rattle.pc_model.specs.Files.{File}
use Rattle.pc_part.specs.Reading.{part_at}
use Rattle.pc_part.specs.Texts.{part_text}
use Rattle.pc_merge.specs.Folds.{Folds}
use Rattle.pc_streams.specs.Coming.{part_coming, part_header}
use Rattle.pc_streams.specs.Refusals.{IsReadRefusal}
use Rattle.pc_stream_join.specs.Headers.{HaveTwoRuns, all_headers, headers_fault}
use Rattle.pc_streams.specs.declared.reader.PartReader.{PartReader}
use Rattle.pc_stream_join.specs.Joining.{IsJoinCause, IsJoinRefusal}
use Rattle.pc_texts.specs.Texts.{joined_line}
use Rattle.pc_texts.specs.declared.files.NamedFile.{NamedFile}
use Rattle.pc_texts.specs.Files.{TellsOf, AreOpened, HoldsBytes, line_about}
use Rattle.pc_collapse_files.specs.declared.inputs.CollapseFault.{CollapseFault}
use Rattle.pc_collapse_files.specs.declared.inputs.CollapseFault.TheVariants as fault
use Rattle.pc_collapse_files.specs.Reads.{TellsReads}

-- one of the files has this name
abbrev pub has_file_named : {R : Type 0} → List (NamedFile R) → List ℕ → Bool
has_file_named files name = list_any (λ file. bytes_eq file.name.items name) files

-- the report if the file that is to be written has the name of an input
abbrev pub usage_text : List ℕ → List ℕ
usage_text name = line_about name (codes "an input has this name")

-- it is reported, as far as the writer takes it
abbrev pub TellsUsage : {T : Type 0} → (T → Option (List ℕ)) → Tally T → Tally T → List ℕ → Type 0
TellsUsage contents old new name = (told : Result (Unit {0}) Refusal) × Puts contents old new told (usage_text name)

-- files that were opened hold these texts, each its own
abbrev pub HoldTexts : {R : Type 0} → (R → Option (List ℕ)) → List (NamedFile R) → List (List ℕ) → Type 0
HoldTexts remaining [] [] = ⊤
HoldTexts remaining (file ∷ files) (text ∷ texts) = HoldsBytes remaining file.opened text × HoldTexts remaining files texts
HoldTexts remaining files texts = ⊥

-- the parts whose texts these are, in their order, or the first fault
unfoldable pub parts_at : List (List ℕ) → Result (List File) Refusal
parts_at [] = Ok []
parts_at (text ∷ texts) = do
  part ← part_at text
  parts ← parts_at texts
  Ok (part ∷ parts)

-- the files hold these parts; said if their bytes are known
abbrev pub AreReadAs : {R : Type 0} → (R → Option (List ℕ)) → List (NamedFile R) → List File → Type 0
AreReadAs remaining files parts = (texts : List (List ℕ)) → HoldTexts remaining files texts → parts_at texts ≡ Ok parts

-- the fold of the parts that the files hold
abbrev pub IsJoinOf : {R : Type 0} → (R → Option (List ℕ)) → List (NamedFile R) → File → Type 0
IsJoinOf remaining files file = (parts : List File) × AreReadAs remaining files parts × Folds parts (Ok file)

-- It is the first of the files that can't be opened, for this reason.
pub record IsFirstUnopened {R : Type 0} (files : List (NamedFile R)) (file : NamedFile R) (why : Refusal) : Type 0 where
  pub before : List (NamedFile R)
  pub behind : List (NamedFile R)
  pub split : files ≡ before ++ file ∷ behind
  pub opened : AreOpened before
  pub unopened : file.opened ≡ Err why

-- why the parts of these texts have no header together: the first that is refused, no part, or two runs
abbrev pub texts_fault : List (List ℕ) → Option Refusal
texts_fault texts = headers_fault (all_headers (map part_header texts))

-- files that were opened have no header together: an allocation failed, a device failed, or so say their bytes, if they are known
abbrev pub HaveNoHeader : {R : Type 0} → (R → Option (List ℕ)) → List (NamedFile R) → Refusal → Type 0
HaveNoHeader remaining files why =
    AreOpened files × ((why ≡ OutOfMemory) ⊎ (why ≡ Device) ⊎ ((texts : List (List ℕ)) → HoldTexts remaining files texts → texts_fault texts ≡ Some why))

-- The possible refusals of files that have no header together, whether their bytes are known or not: NoFile if there are none,
-- OtherRun if all headers were read and two are of different runs, and those of a reader.
abbrev pub IsHeadRefusal : {R : Type 0} → (R → Option (List ℕ)) → List (NamedFile R) → List (PartReader R) → Refusal → Type 0
IsHeadRefusal remaining files inputs why = ((why ≡ NoFile) × (files ≡ [])) ⊎ ((why ≡ OtherRun) × HaveTwoRuns remaining inputs) ⊎ IsReadRefusal why

-- files that were opened have a header together
abbrev pub HaveHeader : {R : Type 0} → (R → Option (List ℕ)) → List (NamedFile R) → Type 0
HaveHeader remaining files = AreOpened files × ((texts : List (List ℕ)) → HoldTexts remaining files texts → texts_fault texts ≡ None)

-- the entries of the files can't be joined, if their bytes are known
abbrev pub AreUnjoined : {R : Type 0} → (R → Option (List ℕ)) → List (NamedFile R) → Refusal → Type 0
AreUnjoined remaining files why = (texts : List (List ℕ)) → HoldTexts remaining files texts → IsJoinCause (map part_coming texts) why

-- Why a collapse failed: a file can't be opened; the files have no header together; or they have one, and their join can't be made,
-- written or printed. Device is reported of the inputs if and only if a read of theirs failed, and for the maker its own refusal
-- is. A refusal of the files is one of those of readers and joins, whether their bytes are known or not.
abbrev pub IsCollapseCause : {R : Type 0} → (R → Option (List ℕ)) → List (NamedFile R) → List (PartReader R) → (Refusal → Type 0) → CollapseFault → Type 0
IsCollapseCause {R} remaining files inputs Refuses (fault.Unopened name why) = (file : NamedFile R) × IsFirstUnopened files file why × (name ≡ file.name)
IsCollapseCause remaining files inputs Refuses (fault.Refused why) = ((why ≡ OutOfMemory) ⊎ HaveNoHeader remaining files why) × TellsReads inputs why × IsHeadRefusal remaining files inputs why
IsCollapseCause remaining files inputs Refuses (fault.Unmade why) = HaveHeader remaining files × Refuses why
IsCollapseCause remaining files inputs Refuses (fault.Unjoined why) = HaveHeader remaining files × AreUnjoined remaining files why × TellsReads inputs why × IsJoinRefusal why
IsCollapseCause remaining files inputs Refuses (fault.Unnamed why) = AreOpened files × ((file : File) × IsJoinOf remaining files file) × Refuses why
IsCollapseCause remaining files inputs Refuses fault.Output = AreOpened files × ((file : File) × IsJoinOf remaining files file)
IsCollapseCause remaining files inputs Refuses fault.Unwritten = HaveHeader remaining files

-- of every file of this kind the text is known
abbrev pub AreKnown : {F : Type 0} → (F → Option (List ℕ)) → Type 0
AreKnown {F} contents = (file : F) → IsSome (contents file)

-- the texts under a name stay
abbrev pub StaysAs : (List ℕ → Type 0) → (List ℕ → Type 0) → Type 0
StaysAs before after = (text : List ℕ) → before text → after text

-- a text is under the file's name; said if the texts of files are known
abbrev pub StandsThere : {F : Type 0} → (F → Option (List ℕ)) → (List ℕ → Type 0) → List ℕ → Type 0
StandsThere contents stands text = AreKnown contents → stands text

-- a file that was made holds this text, and nothing else
abbrev pub IsWholeIn : {F : Type 0} → (F → Option (List ℕ)) → List ℕ → Tally F → Type 0
IsWholeIn contents text file = AreKnown contents → contents (inner_of file) ≡ Some text

-- its text is read as Short
abbrev pub IsShortIn : {F : Type 0} → (F → Option (List ℕ)) → Tally F → Type 0
IsShortIn contents file = AreKnown contents → (bytes : List ℕ) × (contents (inner_of file) ≡ Some bytes) × (part_at bytes ≡ Err Short)

-- a call of the file's own failed
abbrev pub HasFileFailed : {F : Type 0} → Tally F → Type 0
HasFileFailed file = 0 < failures_of file

-- the line of a joined file
abbrev pub joined_file_line : File → List ℕ
joined_file_line file = joined_line (set.items file.points) (map_of.len file.triples)

-- The fold of the files' parts is whole under the name of the file that is to be written, and its line was printed.
pub record IsCollapseDone {R F W : Type 0} (remaining : R → Option (List ℕ)) (contents : F → Option (List ℕ)) (printed : W → Option (List ℕ)) (files : List (NamedFile R)) (stands : List ℕ → Type 0) (old new : Tally W) : Type 0 where
  pub opened : AreOpened files
  pub file : File
  pub join : IsJoinOf remaining files file
  pub written : StandsThere contents stands (part_text file)
  pub line : Appends (printed (inner_of old)) (printed (inner_of new)) (joined_file_line file)
  pub sound : failures_of new ≡ failures_of old

-- the same, except that the output failed: a beginning of the line went out
pub record IsCollapseUntold {R F W : Type 0} (remaining : R → Option (List ℕ)) (contents : F → Option (List ℕ)) (printed : W → Option (List ℕ)) (files : List (NamedFile R)) (stands : List ℕ → Type 0) (old new : Tally W) : Type 0 where
  pub file : File
  pub join : IsJoinOf remaining files file
  pub written : StandsThere contents stands (part_text file)
  pub line : AppendsBeginning (printed (inner_of old)) (printed (inner_of new)) (joined_file_line file)
  pub counted : HasRisen (failures_of old) (failures_of new)

-- A file that was written whole may have got its name or not: the earlier text is still there, or the fold of the parts is.
abbrev pub IsNamedOrNot : {R F : Type 0} → (R → Option (List ℕ)) → (F → Option (List ℕ)) → List (NamedFile R) → (List ℕ → Type 0) → (List ℕ → Type 0) → Type 0
IsNamedOrNot remaining contents files before after = StaysAs before after ⊎ ((file : File) × IsJoinOf remaining files file × StandsThere contents after (part_text file))

-- The state after a fault: a file that was begun and isn't whole only if its writing failed, which is read as Short, and has
-- counted a failure if its device failed; under the name the earlier text, unless the file was whole; and nothing printed but a
-- beginning of the line if the output failed.
abbrev pub IsLeftByCollapse : {R F W : Type 0} → (R → Option (List ℕ)) → (F → Option (List ℕ)) → (W → Option (List ℕ)) → List (NamedFile R) → CollapseFault → Option (Tally F) → (List ℕ → Type 0) → (List ℕ → Type 0) → Tally W → Tally W → Type 0
IsLeftByCollapse remaining contents printed files fault.Unwritten begun before after old new = MatchOption begun ⊥ (λ f. HasFileFailed f × IsShortIn contents f) × StaysAs before after × (new ≡ old)
IsLeftByCollapse remaining contents printed files (fault.Unjoined why) begun before after old new = MatchOption begun ⊥ (IsShortIn contents) × StaysAs before after × (new ≡ old)
IsLeftByCollapse remaining contents printed files (fault.Unnamed why) begun before after old new = (begun ≡ None) × IsNamedOrNot remaining contents files before after × (new ≡ old)
IsLeftByCollapse remaining contents printed files fault.Output begun before after old new = (begun ≡ None) × IsCollapseUntold remaining contents printed files after old new
IsLeftByCollapse remaining contents printed files other begun before after old new = (begun ≡ None) × StaysAs before after × (new ≡ old)

-- the report of a fault, if the file that is to be written has this name; nothing for an output that failed
abbrev pub IsCollapseTold : {T : Type 0} → (T → Option (List ℕ)) → Tally T → Tally T → List ℕ → CollapseFault → Type 0
IsCollapseTold contents old new name (fault.Unopened input why) = TellsOf contents old new input.items why
IsCollapseTold contents old new name (fault.Refused why) = TellsOf contents old new name why
IsCollapseTold contents old new name (fault.Unmade why) = TellsOf contents old new name why
IsCollapseTold contents old new name (fault.Unjoined why) = TellsOf contents old new name why
IsCollapseTold contents old new name (fault.Unnamed why) = TellsOf contents old new name why
IsCollapseTold contents old new name fault.Unwritten = TellsOf contents old new name Device
IsCollapseTold contents old new name fault.Output = new ≡ old

-- a fault has ended a collapse: it is a cause, this is left, and it was reported
abbrev pub IsCollapseFailed : {R F W : Type 0} → (R → Option (List ℕ)) → (F → Option (List ℕ)) → (W → Option (List ℕ)) → List (NamedFile R) → List (PartReader R) → (Refusal → Type 0) → Option (Tally F) → (List ℕ → Type 0) → (List ℕ → Type 0) → Tally W → Tally W → (CollapseFault → Type 0) → Type 0
IsCollapseFailed remaining contents printed files inputs Refuses begun before after old new Told = (fault : CollapseFault) × IsCollapseCause remaining files inputs Refuses fault × IsLeftByCollapse remaining contents printed files fault begun before after old new × Told fault
