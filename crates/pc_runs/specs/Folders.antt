-- The files of a run in its folder.
use Rattle.std.specs.Prelude.{◌≡◌, ◌⊎◌, ◌≤◌, ◌++◌, ⊤, ℕ, Bool, true, false, List, Option, Some, None, Ok}
use Rattle.pc_io.specs.Tallies.{Puts, inner_of}
use Rattle.pc_types.specs.declared.Entry.{Entry}
use Rattle.pc_types.specs.declared.refusal.Refusal.{Refusal}
use Rattle.pc_io.specs.declared.tally.Tally.{Tally}
use Rattle.pc_model.specs.Files.{BaseFile}
use Rattle.pc_model.specs.Replies.{Setting}
use Rattle.pc_model.specs.Sets as set
use Rattle.pc_model.specs.Standing.{file_of_points}
use Rattle.pc_log.specs.Texts.{log_text}
use Rattle.pc_part.specs.Texts.{part_text}
use Rattle.pc_bases.specs.Texts.{base_text}
use Rattle.pc_texts.specs.declared.file_names.FileName.{FileName}
use Rattle.pc_texts.specs.declared.file_names.FileName.TheVariants.{Base, Part, Log}
use Rattle.pc_threads.specs.Faults.{IsFileLost}
use Rattle.pc_threads.specs.Files.{KeepsOtherFiles}
use Rattle.pc_threads.specs.declared.files.FileFault.{FileFault}
use Rattle.pc_threads.specs.declared.files.FileFault.TheVariants.{Unmade}

-- the base that a store of this setting starts from
abbrev pub base_of : Setting → BaseFile
base_of st = record { run = st.run; point = 0; pairs = st.base }

-- The folder has the texts of a run that began with this base and has this log: of the base, of the log, and for each point from 1
-- to the last one of the file that the log gives it.
pub record HasFiles (holds : FileName → List ℕ → Type 0) (base : BaseFile) (log : List Entry) (points : ℕ) : Type 0 where
  pub base_is : holds Base (base_text base)
  pub parts_are : (point : ℕ) → 1 ≤ point → point ≤ points → holds (Part point) (part_text (file_of_points base.run base.pairs log (set.insert set.empty point)))
  pub log_is : holds Log (log_text base.run log)

-- the same of the folder that is left, if there is one
abbrev pub LeavesFiles : {D : Type 0} → (D → FileName → List ℕ → Type 0) → BaseFile → List Entry → ℕ → Bool → Option D → Type 0
LeavesFiles holds base log points true (Some folder) = HasFiles (holds folder) base log points
LeavesFiles holds base log points false None = ⊤
LeavesFiles holds base log points there left = ⊥

-- There is a folder, which has the base's text, and a blank file of it for the log; or there is neither.
abbrev pub HasBegunFiles : {D T : Type 0} → (D → FileName → List ℕ → Type 0) → (T → Option (List ℕ)) → Option (List ℕ) → BaseFile → Option D → Option (Tally T) → Type 0
HasBegunFiles holds contents blank base None None = ⊤
HasBegunFiles holds contents blank base (Some folder) (Some log) = holds folder Base (base_text base) × (contents (inner_of log) ≡ blank)
HasBegunFiles holds contents blank base folder log = ⊥

-- the base's file was lost; or that of the log can't be made, and the folder refuses it for this reason
abbrev pub IsBeginLost : {T : Type 0} → (FileName → Refusal → Type 0) → FileFault T → Type 0
IsBeginLost refuses lost = IsFileLost refuses Base 0 lost ⊎ ((why : Refusal) × (lost ≡ Unmade Log why) × refuses Log why)

-- there is a folder, and the log's file was lost, of which as many calls had failed as the tally says
abbrev pub IsLogLost : {D T : Type 0} → (D → FileName → Refusal → Type 0) → Option D → Option (Tally T) → FileFault T → Type 0
IsLogLost refuses (Some folder) (Some log) lost = IsFileLost (refuses folder) Log log.failures lost
IsLogLost refuses folder log lost = ⊥

-- After the text that was written to the log's file the rest was, and the file is whole; the other files stay.
abbrev pub HasFinished : {D T : Type 0} → (D → FileName → List ℕ → Type 0) → (T → Option (List ℕ)) → Option (List ℕ) → List ℕ → Option D → Option (Tally T) → Option D → Type 0
HasFinished {D} {T} holds contents blank rest (Some old) (Some log) (Some new) = KeepsOtherFiles (holds old) (holds new) Log
    × ((first : Tally T) (text : List ℕ) → contents (inner_of first) ≡ blank → Puts contents first log (Ok tt) text → holds new Log (text ++ rest))
HasFinished holds contents blank rest (Some old) (Some log) None = ⊥
HasFinished holds contents blank rest old log new = new ≡ old
