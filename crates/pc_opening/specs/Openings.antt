-- The contents of the folders once a store is opened, or if that is interrupted.
use Rattle.std.specs.Prelude.{◌⊎◌, ◌≢◌, ◌≤◌, ◌+◌, ℕ, List, Option}
use Rattle.pc_model.specs.Files.{BaseFile}
use Rattle.pc_log.specs.Texts.{header_text}
use Rattle.pc_bases.specs.Texts.{base_text}
use Rattle.pc_generations.specs.Folders.{IsCurrentGeneration, IsUnbegun, StaysAt, next_of}

-- the generation after the one that counted counts, with the text of this base and a log of its run without entries
abbrev pub CountsWith : (ℕ → List ℕ → Option (List ℕ) → Type 0) → Option ℕ → BaseFile → Type 0
CountsWith stands latest base = IsCurrentGeneration stands (next_of latest) (base_text base) (header_text base.run)

-- either that, or no generation has begun
abbrev pub IsOpeningCutOff : (ℕ → List ℕ → Option (List ℕ) → Type 0) → (ℕ → List ℕ → Option (List ℕ) → Type 0) → Option ℕ → BaseFile → Type 0
IsOpeningCutOff old new latest base = CountsWith new latest base ⊎ IsUnbegun old new latest

-- of the generations before this one, the last ones, as many as are kept, are as they were
abbrev pub KeepsBefore : ℕ → (ℕ → List ℕ → Option (List ℕ) → Type 0) → (ℕ → List ℕ → Option (List ℕ) → Type 0) → ℕ → Type 0
KeepsBefore keep old new number = (other : ℕ) → number ≤ other + keep → other ≢ number → StaysAt old new other
