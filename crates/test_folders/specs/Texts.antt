-- The texts of files in memory.
use Rattle.std.specs.Prelude.{◌≡◌, ◌≢◌, ◌⊎◌, ℕ, List, [], ◌∷◌}
use Rattle.pc_texts.specs.declared.file_names.FileName.{FileName}

-- of the files, each with its name, the first one of this name has this text
abbrev pub HasText : List (FileName × List ℕ) → FileName → List ℕ → Type 0
HasText [] name text = ⊥
HasText (file ∷ files) name text = ((file.0 ≡ name) × (file.1 ≡ text)) ⊎ ((name ≢ file.0) × HasText files name text)
