-- The files of a folder: their texts, and why one is refused.
use Rattle.std.specs.Prelude.{◌≡◌, ◌≢◌, ◌<◌, ◌+◌, ℕ, List, [], Option, Some, None, length, slice_index_or}
use Rattle.pc_types.specs.declared.refusal.Refusal.{Refusal}
use Rattle.pc_model.specs.Files.{File}
use Rattle.pc_model.specs.Sets as set
use Rattle.pc_part.specs.Texts.{part_text}
use Rattle.pc_texts.specs.declared.file_names.FileName.{FileName}
use Rattle.pc_texts.specs.declared.file_names.FileName.TheVariants.{Base, Part}

-- the folder still has its texts under other names than this one
abbrev pub KeepsOtherFiles : (FileName → List ℕ → Type 0) → (FileName → List ℕ → Type 0) → FileName → Type 0
KeepsOtherFiles old new name = (other : FileName) (text : List ℕ) → other ≢ name → old other text → new other text

-- the folder refuses no file for a reason for which it didn't refuse it before
abbrev pub RefusesNoMore : (FileName → Refusal → Type 0) → (FileName → Refusal → Type 0) → Type 0
RefusesNoMore old new = (name : FileName) (why : Refusal) → new name why → old name why

-- there is a folder, and it refuses the file of this name for this reason
abbrev pub RefusedBy : {D : Type 0} → (D → FileName → Refusal → Type 0) → Option D → FileName → Refusal → Type 0
RefusedBy refuses None = λ name why. ⊥
RefusedBy refuses (Some folder) = refuses folder

-- The first file is of point 1 alone, the second one of point 2, and so on, and the folder has the text of each under its name.
abbrev pub HasParts : (FileName → List ℕ → Type 0) → List File → Type 0
HasParts holds files = (place : ℕ) (file : File) → place < length files
    → ((slice_index_or files place file).points ≡ set.insert set.empty (place + 1)) × holds (Part (place + 1)) (part_text (slice_index_or files place file))

-- The files of this many points were written to a folder, which still has its base; if there is no folder, none was.
abbrev pub HasWritten : {D : Type 0} → (D → FileName → List ℕ → Type 0) → ℕ → Option D → Option D → List File → Type 0
HasWritten holds points None None files = files ≡ []
HasWritten holds points (Some old) (Some new) files = ((text : List ℕ) → holds old Base text → holds new Base text) × (length files ≡ points) × HasParts (holds new) files
HasWritten holds points old new files = ⊥
