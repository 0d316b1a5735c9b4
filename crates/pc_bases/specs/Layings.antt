-- Laying a part on a base: when it is refused.
use Rattle.std.specs.Prelude.{ℕ, ◌==◌, not, nat_lt, Bool, true, List, [], ◌∷◌, ◌++◌, Option, Some, None}
use Rattle.pc_types.specs.declared.Refusal.{Refusal}
use Rattle.pc_types.specs.declared.Refusal.TheVariants.{OtherRun, Gap, Full}
use Rattle.pc_model.specs.Maps as map_of
use Rattle.pc_model.specs.Database.{Database}
use Rattle.pc_types.specs.declared.limits.TheConstants.{MOST_FILE_ENTRIES}
use Rattle.pc_model.specs.Points.{AtPoint, Triples, laid_at, laid}
use Rattle.pc_model.specs.Files.{File, BaseFile}
use Rattle.pc_model.specs.LaidFiles.{gap_above}

-- what a key has once what is there of it in the triples is laid at the point on what it had
abbrev pub laid_there : ℕ → Option (List ℕ) → Option AtPoint → Option (List ℕ)
laid_there point there triple = laid_at there point triple

-- why triples can't be applied to a database at a point: what is made of them passes the entry limit
abbrev pub limit_causes : Database → ℕ → Triples → List (Bool × Refusal)
limit_causes db point triples = (nat_lt MOST_FILE_ENTRIES (map_of.len (laid db point triples)), Full) ∷ []

-- a gap as a cause
abbrev pub gap_causes : Option ℕ → List (Bool × Refusal)
gap_causes None = []
gap_causes (Some point) = (true, Gap point) ∷ []

-- why a file can't be applied to a base: it is of another run, it leaves a gap, or too many pairs would be left
abbrev pub lay_causes : BaseFile → File → List (Bool × Refusal)
lay_causes base file =
    (not (base.run == file.run), OtherRun) ∷ gap_causes (gap_above base.point file.points) ++ limit_causes base.pairs base.point file.triples
