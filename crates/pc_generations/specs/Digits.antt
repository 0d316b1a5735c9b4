-- Reading a number from the name of a folder.
use Rattle.std.specs.Prelude.{ℕ, ◌+◌, ◌*◌, ◌-◌, List, slice_index_or}

-- the digit with this index, 0 if there is none
abbrev pub digit_in : List ℕ → ℕ → ℕ
digit_in name at = slice_index_or name at 48 - 48

-- the number of seven digits
abbrev pub seven_digit_number : List ℕ → ℕ
seven_digit_number name = (1000000 * digit_in name 4 + 100000 * digit_in name 5 + 10000 * digit_in name 6)
    + (1000 * digit_in name 7 + 100 * digit_in name 8 + 10 * digit_in name 9 + digit_in name 10)
