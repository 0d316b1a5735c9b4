-- Joining files in order, and applying one to a base.
use Rattle.std.specs.Prelude.{ℕ, ◌≡◌, IsTrue, List, [], ◌∷◌, Option, Some, None, Result, Ok}
use Rattle.pc_types.specs.declared.refusal.Refusal.{Refusal}
use Rattle.pc_io.specs.Fields.{◌>>=◌}
use Rattle.pc_model.specs.Maps as map_of
use Rattle.pc_model.specs.Sets as set
use Rattle.pc_model.specs.Points.{AtPoint}
use Rattle.pc_model.specs.Files.{File, BaseFile, joined_file}
use Rattle.pc_model.specs.LaidFiles.{laid_file}
use Rattle.pc_model.specs.Replies.{join_causes}
use Rattle.pc_part.specs.Joins.{first_cause}
use Rattle.pc_bases.specs.Layings.{lay_causes}
use Rattle.pc_recover.specs.Recovery.{ok_unless}

-- the join of two files, unless it is refused
abbrev pub join_due : File → File → Result File Refusal
join_due a b = ok_unless (first_cause (join_causes (Some a) (Some b))) (joined_file a b)

-- the base with the file applied to it, unless that is refused
abbrev pub lay_due : BaseFile → File → Result BaseFile Refusal
lay_due base file = ok_unless (first_cause (lay_causes base file)) (laid_file base file)

-- the join so far, with the files joined to it
abbrev pub joined_on : Option File → List File → Result (Option File) Refusal
joined_on joined [] = Ok joined
joined_on None (file ∷ files) = joined_on (Some file) files
joined_on (Some joined) (file ∷ files) = do
  both ← join_due joined file
  joined_on (Some both) files

-- a key's value in the file is of one of its points
abbrev pub IsOfPoints : File → Type 0
IsOfPoints file = (key : List ℕ) (there : AtPoint) → map_of.get file.triples key ≡ Some there → IsTrue (set.contains file.points there.point)
