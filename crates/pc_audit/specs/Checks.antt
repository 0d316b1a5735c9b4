-- The states of a log, with which files are compared.
use Rattle.std.specs.Prelude.{◌≡◌, ℕ, List, IsTrue}
use Rattle.pc_types.specs.declared.Entry.{Entry}
use Rattle.pc_model.specs.Database.{Database}
use Rattle.pc_model.specs.Log.{has_token, state_at}
use Rattle.pc_model.specs.Points.{laid}
use Rattle.pc_model.specs.Files.{File}
use Rattle.pc_part.specs.Parts.{CoversTo}

-- the token of the file's point is in the log, and the base with the file applied to it is the state of the point
abbrev pub IsStateOf : Database → List Entry → File → ℕ → Type 0
IsStateOf base log file n = IsTrue (has_token n log) × (laid base 0 file.triples ≡ state_at base log n)

-- if the file's points are those from 1 to some n, it is the state of n
abbrev pub IsFileRight : Database → List Entry → File → Type 0
IsFileRight base log file = (n : ℕ) → CoversTo file n → IsStateOf base log file n
