-- The limits of a world's parts.
use Rattle.std.specs.Prelude.{ℕ, ◌+◌, ◌*◌, ◌≤◌, List, length, Option, All}
use Rattle.pc_types.specs.declared.Entry.{Entry}
use Rattle.pc_model.specs.Files.{File}
use Rattle.pc_model.specs.FewWrites.{HasFewWrites}
use Rattle.pc_types.specs.declared.limits.TheConstants.{MOST_FILES, MOST_WRITES}

-- the logged writes of each commit and the files are within their limits; and since each commit writes at most 256 keys, no set
-- has as many keys as a file may have entries
pub record IsWithinLimits (log : List Entry) (open_keys closed : List (List ℕ)) (taken : List (List ℕ × Option (List ℕ))) (shelf : List File) : Type 0 where
  pub most_logged : All HasFewWrites log
  pub most_open : length open_keys ≤ MOST_WRITES * length log
  pub most_closed : length closed + length taken ≤ 4294967040
  pub most_files : length shelf ≤ MOST_FILES
