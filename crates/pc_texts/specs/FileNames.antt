-- The names of the files of the folder that a run leaves.
use Rattle.std.specs.Prelude.{ℕ, ◌/◌, ◌%◌, ◌+◌, List, [], ◌∷◌, ◌++◌, codes}
use Rattle.pc_texts.specs.declared.file_names.FileName.{FileName}
use Rattle.pc_texts.specs.declared.file_names.FileName.TheVariants as file

-- the last decimal digit of a number, as it is written
abbrev pub last_digit : ℕ → ℕ
last_digit number = 48 + number % 10

-- five decimal digits of a number, zeros first
abbrev pub five_digits : ℕ → List ℕ
five_digits number = last_digit (number / 10000) ∷ last_digit (number / 1000) ∷ last_digit (number / 100) ∷ last_digit (number / 10) ∷ last_digit number ∷ []

-- the name of a file
abbrev pub name_of_file : FileName → List ℕ
name_of_file file.Base = codes "base.pcb"
name_of_file (file.Part point) = codes "part-" ++ (five_digits point ++ codes ".pcp")
name_of_file file.Log = codes "log.pcl"
