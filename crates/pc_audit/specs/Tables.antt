-- The requirements on databases and on entries when a log is replayed.
use Rattle.std.specs.Prelude.{◌≡◌, ℕ, Bool, false, List, Some}
use Rattle.pc_types.specs.declared.Entry.{Entry}
use Rattle.pc_types.specs.declared.Entry.TheVariants.{Commit, Token}
use Rattle.pc_model.specs.Maps.{get}
use Rattle.pc_model.specs.Database.{Database}
use Rattle.pc_model.specs.Log.{is_token_of}

-- what the first database has of a key, the second has
abbrev pub IsContainedIn : Database → Database → Type 0
IsContainedIn m n = (key value : List ℕ) → get m key ≡ Some value → get n key ≡ Some value

-- the entry is the point's token
abbrev pub is_mark : ℕ → Entry → Bool
is_mark point (Commit session writes) = false
is_mark point (Token phase m) = is_token_of point phase m
