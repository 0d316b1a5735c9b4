-- What files represent: which facts hold among them, and when some files may replace others.
use Rattle.std.specs.Prelude.{◌≡◌, ℕ, ◌≤◌, ◌⊎◌, List, [], ◌∷◌, Some, ⊤, IsTrue, IsFalse, MatchResult, Result}
use Rattle.pc_types.specs.declared.Refusal.{Refusal}
use Rattle.pc_model.specs.Maps as map_of
use Rattle.pc_model.specs.Sets as set
use Rattle.pc_model.specs.Points.{AtPoint}
use Rattle.pc_model.specs.Files.{File}
use Rattle.pc_merge.specs.Folds.{has_other_run, IsFoldCause}

-- a fact of a file: it has this triple, this point, or this run
pub data Fact : Type 0 where
  HasTriple : List ℕ → AtPoint → Fact
  HasPoint : ℕ → Fact
  HasRun : ℕ → Fact

-- the fact holds of the file
abbrev pub FactHolds : Fact → File → Type 0
FactHolds (HasTriple key x) file = map_of.get file.triples key ≡ Some x
FactHolds (HasPoint p) file = IsTrue (set.contains file.points p)
FactHolds (HasRun run) file = file.run ≡ run

-- the fact holds of one of the files
abbrev pub Among : Fact → List File → Type 0
Among w [] = ⊥
Among w (f ∷ fs) = FactHolds w f ⊎ Among w fs

-- the fact has to stay: a triple does if none of its key in the files has a greater point
abbrev pub MustStay : Fact → List File → Type 0
MustStay (HasTriple key x) files = (u : AtPoint) → Among (HasTriple key u) files → u.point ≤ x.point
MustStay other files = ⊤

-- each fact of some files is one of the given files
abbrev pub AreFactsGiven : List File → List File → Type 0
AreFactsGiven given files = (w : Fact) → Among w files → Among w given

-- files that represent the given ones: each triple is one of theirs, and so are points and runs; the points, the runs and of
-- each key the triples of the greatest point are all there
pub record AreWorth (given files : List File) : Type 0 where
  pub sound : AreFactsGiven given files
  pub whole : (w : Fact) → MustStay w given → Among w given → Among w files

-- there are files, and they are of one run
abbrev pub AreOfOneRun : List File → Type 0
AreOfOneRun [] = ⊥
AreOfOneRun (first ∷ others) = IsFalse (has_other_run first others)

-- it is a cause for which the fold of the given files, if they are of one run, may be refused
abbrev pub IsCauseOf : List File → Refusal → Type 0
IsCauseOf given why = (first : File) (others : List File) → given ≡ first ∷ others → IsFalse (has_other_run first others) → IsFoldCause first others why

-- whatever files these are made of, it is a cause for which the fold of those may be refused
abbrev pub IsCauseFor : List File → Refusal → Type 0
IsCauseFor files why = (given : List File) → AreFactsGiven given files → IsCauseOf given why

-- the files are joined to one that represents them, or there is a cause why not
abbrev pub JoinsToOne : List File → Result File Refusal → Type 0
JoinsToOne files result = MatchResult result (λ file. AreWorth files (file ∷ [])) (IsCauseFor files)
