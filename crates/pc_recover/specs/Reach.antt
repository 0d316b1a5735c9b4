-- How far files reach: of each point the least greatest point of the files that cover it.
use Rattle.std.specs.Prelude.{ℕ, ◌≡◌, ◌≤◌, IsTrue, min, List, Option, Some, None, fold, slice_index_or, if◌then◌else◌}
use Rattle.pc_types.specs.declared.limits.TheConstants.{MOST_POINTS}
use Rattle.pc_model.specs.Sets as set
use Rattle.pc_model.specs.Files.{File}
use Rattle.pc_model.specs.LaidFiles.{greatest}
use Rattle.pc_recover.specs.Recovery.{recovered_point, first_missing}
use Rattle.pc_recover.specs.declared.reach.Reach.{Reach}

-- the lesser of two points, the first of which may be missing
abbrev pub lesser_point : Option ℕ → ℕ → Option ℕ
lesser_point None top = Some top
lesser_point (Some other) top = Some (min other top)

-- the same with the greatest point of a file, if it covers this point
abbrev pub top_with_file : ℕ → Option ℕ → File → Option ℕ
top_with_file point top file = if set.contains file.points point then lesser_point top (greatest file.points) else top

-- the least greatest point of the files that cover this point
abbrev pub least_top : List File → ℕ → Option ℕ
least_top files point = fold (top_with_file point) None files

-- the table's number at the point's place
abbrev pub top_at : List (Option ℕ) → ℕ → Option ℕ
top_at tops point = slice_index_or tops point None

-- the table has of each point the least greatest point of the files that cover it
abbrev pub AreTops : List (Option ℕ) → List File → Type 0
AreTops tops files = (point : ℕ) → point ≤ MOST_POINTS → top_at tops point ≡ least_top files point

-- the file's points have a place in the table, at which nothing is noted
abbrev pub HasFreePoints : List (Option ℕ) → File → Type 0
HasFreePoints tops file = (point : ℕ) → IsTrue (set.contains file.points point) → (point ≤ MOST_POINTS) × (top_at tops point ≡ None)

-- how far the files reach from the base: to the recovered point, and the first point that they lack
pub record IsReach (base : ℕ) (files : List File) (reach : Reach) : Type 0 where
  pub point : reach.point ≡ recovered_point base files
  pub missing : reach.missing ≡ first_missing base files
