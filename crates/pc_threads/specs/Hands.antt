-- How the collapsers of a run are numbered.
use Rattle.std.specs.Prelude.{ℕ, zero, suc, List, [], ◌∷◌, ◌++◌}

-- the first numbers from 0 on, this many
abbrev pub first_numbers : ℕ → List ℕ
first_numbers zero = []
first_numbers (suc count) = first_numbers count ++ count ∷ []
