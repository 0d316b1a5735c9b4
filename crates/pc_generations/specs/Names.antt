-- The names of the folders of generations, and of their files.
use Rattle.std.specs.Prelude.{ℕ, ◌/◌, ◌%◌, ◌+◌, List, [], ◌∷◌, ◌++◌, codes}

-- the last decimal digit of a number, as it is written
abbrev pub last_digit : ℕ → ℕ
last_digit number = 48 + number % 10

-- seven decimal digits of a number, zeros first
abbrev pub seven_digits : ℕ → List ℕ
seven_digits number = last_digit (number / 1000000) ∷ last_digit (number / 100000) ∷ last_digit (number / 10000) ∷ last_digit (number / 1000)
    ∷ last_digit (number / 100) ∷ last_digit (number / 10) ∷ last_digit number ∷ []

-- the name of the folder of a generation
abbrev pub folder_name : ℕ → List ℕ
folder_name number = codes "gen-" ++ seven_digits number

-- the names of the base and the log of a generation
abbrev pub base_name : List ℕ
base_name = codes "base.pcb"

abbrev pub log_name : List ℕ
log_name = codes "log.pcl"
