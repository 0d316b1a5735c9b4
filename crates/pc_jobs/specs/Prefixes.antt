-- The keys of a fill: a prefix with six digits after it.
use Rattle.std.specs.Prelude.{ℕ, ◌+◌, ◌/◌, ◌%◌, ◌≤◌, nat_le, Bool, List, [], ◌∷◌, length}
use Rattle.pc_types.specs.declared.limits.TheConstants.{SPACE_BYTES, MOST_KEY_BYTES}

-- a prefix, whose first bytes are those of its space, leaves room for six digits in a key
abbrev pub is_prefix : List ℕ → Bool
is_prefix prefix = nat_le (length prefix + 6) (SPACE_BYTES + MOST_KEY_BYTES)

-- the same as a fact
abbrev pub IsPrefix : List ℕ → Type 0
IsPrefix prefix = (SPACE_BYTES ≤ length prefix) × (length prefix + 6 ≤ SPACE_BYTES + MOST_KEY_BYTES)

-- the byte of a number's last decimal digit
abbrev pub digit : ℕ → ℕ
digit n = 48 + n % 10

-- the last six decimal digits of a number, with leading zeros
abbrev pub six_digits : ℕ → List ℕ
six_digits n = digit (n / 100000) ∷ digit (n / 10000) ∷ digit (n / 1000) ∷ digit (n / 100) ∷ digit (n / 10) ∷ digit n ∷ []
