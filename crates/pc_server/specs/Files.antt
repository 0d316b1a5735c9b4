-- The files of points that a process which serves has handed out.
use Rattle.std.specs.Prelude.{◌≡◌, ◌⊎◌, ◌+◌, ℕ, List, [], ◌∷◌, ◌++◌, length, Some}
use Rattle.pc_model.specs.Files.{File, file_at}
use Rattle.pc_model.specs.Sets as set
use Rattle.pc_part.specs.Lawful.{IsPartFile}
use Rattle.pc_part.specs.Texts.{part_text}
use Rattle.pc_serving.specs.declared.pace.Turned.{Turned}
use Rattle.pc_serving.specs.declared.pace.Turned.TheVariants as turned

-- the file is that of this point alone
abbrev pub IsOfPoint : File → ℕ → Type 0
IsOfPoint file point = file.points ≡ set.insert set.empty point

-- the text is that of the file, which has one
abbrev pub IsTextOf : File → List ℕ → Type 0
IsTextOf file text = IsPartFile file × (text ≡ part_text file)

-- the file's text is there under its point
abbrev pub HasFile : (ℕ → List ℕ → Type 0) → File → Type 0
HasFile holds file = (point : ℕ) → IsOfPoint file point → holds point (part_text file)

-- what was there under other points is there still
abbrev pub KeepsOthers : (ℕ → List ℕ → Type 0) → (ℕ → List ℕ → Type 0) → File → Type 0
KeepsOthers old new file = (point : ℕ) (text : List ℕ) → ¬ IsOfPoint file point → old point text → new point text

-- nothing is there that wasn't, but maybe the file's text under its point
abbrev pub HasNoMore : (ℕ → List ℕ → Type 0) → (ℕ → List ℕ → Type 0) → File → Type 0
HasNoMore old new file = (point : ℕ) (text : List ℕ) → new point text → old point text ⊎ (IsOfPoint file point × IsTextOf file text)

-- a shelf's file of each number is that of the point with this number
abbrev pub AreOfPoints : List File → Type 0
AreOfPoints files = (point : ℕ) (file : File) → file_at files point ≡ Some file → IsOfPoint file point

-- each file of the shelf is there, under its point
abbrev pub HasAllFiles : (ℕ → List ℕ → Type 0) → List File → Type 0
HasAllFiles holds files = (point : ℕ) (file : File) → file_at files point ≡ Some file → holds point (part_text file)

-- what is there was there at first, or is the text of the shelf's file of its point
abbrev pub HasOnlyFiles : (ℕ → List ℕ → Type 0) → (ℕ → List ℕ → Type 0) → List File → Type 0
HasOnlyFiles first now files = (point : ℕ) (text : List ℕ) → now point text → first point text ⊎ ((file : File) × (file_at files point ≡ Some file) × IsTextOf file text)

-- the files of the shelf, of which this holds, are there, and no others but those that were at first
abbrev pub WithFiles : (ℕ → List ℕ → Type 0) → (ℕ → List ℕ → Type 0) → (List File → Type 0) → Type 0
WithFiles first now Holds = (files : List File) × Holds files × HasAllFiles now files × HasOnlyFiles first now files

-- of the files of the shelf, of which this holds, some are there, and no others but those that were at first
abbrev pub WithSomeFiles : (ℕ → List ℕ → Type 0) → (ℕ → List ℕ → Type 0) → (List File → Type 0) → Type 0
WithSomeFiles first now Holds = (files : List File) × Holds files × HasOnlyFiles first now files

-- this was put on the shelf, if anything was
abbrev pub ExtendsShelf : Turned → List File → List File → Type 0
ExtendsShelf (turned.Shelved number) old new = (file : File) × (new ≡ old ++ file ∷ []) × (number ≡ length old + 1)
ExtendsShelf other old new = new ≡ old
