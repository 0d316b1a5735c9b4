-- Part files as readers, and the join that was written of them.
use Rattle.std.specs.Prelude.{◌≡◌, ◌⊎◌, ℕ, List, Option, Some, None, MatchBool, MatchOption, map, nat_lt}
use Rattle.pc_types.specs.declared.refusal.Refusal.{Refusal}
use Rattle.pc_types.specs.declared.refusal.Refusal.TheVariants.{OutOfMemory}
use Rattle.pc_io.specs.declared.tally.Tally.{Tally}
use Rattle.pc_io.specs.Tallies.{failures_of}
use Rattle.pc_model.specs.Maps as map_of
use Rattle.pc_model.specs.Sets as set
use Rattle.pc_model.specs.Files.{File}
use Rattle.pc_part.specs.Parts.{points_of}
use Rattle.pc_part.specs.Texts.{part_text}
use Rattle.pc_streams.specs.declared.reader.PartReader.{PartReader}
use Rattle.pc_streams.specs.Coming.{part_coming, part_header}
use Rattle.pc_streams.specs.Readers.{coming_of, header_of}
use Rattle.pc_stream_join.specs.Headers.{AreHeaded}
use Rattle.pc_stream_join.specs.Joining.{IsJoinRefusal}
use Rattle.pc_texts.specs.declared.files.NamedFile.{NamedFile}
use Rattle.pc_texts.specs.Files.{AreOpened, HoldsBytes}
use Rattle.pc_collapse_files.specs.declared.inputs.CollapseFault.{CollapseFault}
use Rattle.pc_collapse_files.specs.declared.inputs.CollapseFault.TheVariants as fault
use Rattle.pc_collapse_files.specs.declared.inputs.OpenedInputs.{OpenedInputs}
use Rattle.pc_collapse_files.specs.declared.output.WrittenFile.{WrittenFile}
use Rattle.pc_collapse_files.specs.Reads.{AreSound, TellsReads}
use Rattle.pc_collapse_files.specs.Collapses.{AreUnjoined, HasFileFailed, HaveHeader, HaveNoHeader, HoldTexts, IsFirstUnopened, IsHeadRefusal, IsJoinOf, IsShortIn, IsWholeIn}

-- a reader has the header of the file's text, and all its entries, if the bytes are known
abbrev pub IsReaderOf : {R : Type 0} → (R → Option (List ℕ)) → NamedFile R → PartReader R → Type 0
IsReaderOf remaining file reader =
    (text : List ℕ) → HoldsBytes remaining file.opened text → (header_of remaining reader ≡ Some (part_header text)) × (coming_of remaining reader ≡ Some (part_coming text))

-- the same of all, in their order
abbrev pub AreReadersOf : {R : Type 0} → (R → Option (List ℕ)) → List (NamedFile R) → List (PartReader R) → Type 0
AreReadersOf remaining files readers =
    (texts : List (List ℕ)) → HoldTexts remaining files texts
    → (map (header_of remaining) readers ≡ map (λ text. Some (part_header text)) texts) × (map (coming_of remaining) readers ≡ map (λ text. Some (part_coming text)) texts)

-- no file is made: one can't be opened, an allocation failed, or the files have no header together
abbrev pub IsHeadFault : {R : Type 0} → (R → Option (List ℕ)) → List (NamedFile R) → List (PartReader R) → CollapseFault → Type 0
IsHeadFault {R} remaining files inputs (fault.Unopened name why) = (file : NamedFile R) × IsFirstUnopened files file why × (name ≡ file.name)
IsHeadFault remaining files inputs (fault.Refused why) = ((why ≡ OutOfMemory) ⊎ HaveNoHeader remaining files why) × TellsReads inputs why × IsHeadRefusal remaining files inputs why
IsHeadFault remaining files inputs other = ⊥

-- The files were opened, and their headers read: this is the header of their join, and these its points.
pub record IsOpenedAs {R : Type 0} (remaining : R → Option (List ℕ)) (files : List (NamedFile R)) (inputs : OpenedInputs R) : Type 0 where
  pub opened : AreOpened files
  pub readers : AreReadersOf remaining files inputs.readers.items
  pub sound : AreSound inputs.readers.items
  pub headed : AreHeaded remaining inputs.header.run inputs.header.ranges.items inputs.readers.items
  pub points : inputs.points ≡ set.items (points_of inputs.header.ranges.items)

-- The join of the files was written whole to a file, and this is its line's content.
pub record IsWrittenOf {R F : Type 0} (remaining : R → Option (List ℕ)) (contents : F → Option (List ℕ)) (files : List (NamedFile R)) (written : WrittenFile F) : Type 0 where
  pub opened : AreOpened files
  pub file : File
  pub join : IsJoinOf remaining files file
  pub whole : IsWholeIn contents (part_text file) written.file
  pub points : written.points ≡ set.items file.points
  pub entries : written.entries ≡ map_of.len file.triples

-- the join wasn't written: no file was made, or one that is read as Short, and that has counted a failure if its device failed
abbrev pub IsUnwritten : {R F : Type 0} → (R → Option (List ℕ)) → (F → Option (List ℕ)) → List (NamedFile R) → List (PartReader R) → (Refusal → Type 0) → Option (Tally F) → CollapseFault → Type 0
IsUnwritten remaining contents files inputs Refuses made (fault.Unmade why) = HaveHeader remaining files × Refuses why × (made ≡ None)
IsUnwritten remaining contents files inputs Refuses made (fault.Unjoined why) = HaveHeader remaining files × AreUnjoined remaining files why × TellsReads inputs why × IsJoinRefusal why × MatchOption made ⊥ (IsShortIn contents)
IsUnwritten remaining contents files inputs Refuses made fault.Unwritten = HaveHeader remaining files × MatchOption made ⊥ (λ f. HasFileFailed f × IsShortIn contents f)
IsUnwritten remaining contents files inputs Refuses made other = ⊥

-- the fault of a file that was begun and can't be joined for this reason: its device's if one of its calls failed
abbrev pub IsFileFault : {F : Type 0} → Tally F → Refusal → CollapseFault → Type 0
IsFileFault file why other = MatchBool (nat_lt 0 (failures_of file)) (other ≡ fault.Unwritten) (other ≡ fault.Unjoined why)
