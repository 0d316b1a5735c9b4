-- Databases with changes laid over them.
use Rattle.std.specs.Prelude.{ℕ, List, [], ◌∷◌, Option, Some, None}
use Rattle.pc_model.specs.Database.{Database, put}

-- the database with the changes laid over it: each key among them is set or removed, and the first change of a key counts
abbrev pub overlaid : Database → List (List ℕ × Option (List ℕ)) → Database
overlaid db [] = db
overlaid db (change ∷ changes) = put (overlaid db changes) change.0 change.1

-- what a key has once its change, if there is one, is laid over what it had
abbrev pub overlaid_there : Option (List ℕ) → Option (Option (List ℕ)) → Option (List ℕ)
overlaid_there there None = there
overlaid_there there (Some content) = content
