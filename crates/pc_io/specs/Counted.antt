-- The counting of failures.
use Rattle.std.specs.Prelude.{◌≡◌, ◌≤◌, ◌<◌, ◌+◌, ◌-◌, ◌^◌, ℕ, nat_lt, ◌&&◌, min, List, ◌++◌, length, take, Option, Some, None, Result, Ok, Err, ⊤, if◌then◌else◌}

-- one more failure; the count stays at the greatest u64
abbrev pub one_more : ℕ → ℕ
one_more n = min (n + 1) (2 ^ 64 - 1)

-- a failure was counted: the count is greater, or at its greatest value
abbrev pub HasRisen : ℕ → ℕ → Type 0
HasRisen old new = one_more old ≤ new

-- a read fails if it answers an error
abbrev pub after_read : {E : Type 0} → Result ℕ E → ℕ → ℕ
after_read (Ok n) count = count
after_read (Err e) count = one_more count

-- a write fails if it answers an error, or where it was given bytes and took none
abbrev pub after_write : {E : Type 0} → Result ℕ E → List ℕ → ℕ → ℕ
after_write (Ok n) piece count = if (nat_lt 0 (length piece) && nat_lt n 1) then one_more count else count
after_write (Err e) piece count = one_more count

-- a flush fails if it answers an error
abbrev pub after_flush : {E : Type 0} → Result (Unit {0}) E → ℕ → ℕ
after_flush (Ok u) count = count
after_flush (Err e) count = one_more count

-- known bytes grow by a prefix of the text
abbrev pub AppendsBeginning : Option (List ℕ) → Option (List ℕ) → List ℕ → Type 0
AppendsBeginning None new text = ⊤
AppendsBeginning (Some xs) None text = ⊥
AppendsBeginning (Some xs) (Some ys) text = (n : ℕ) × (n ≤ length text) × (ys ≡ xs ++ take n text)

-- known bytes grow by a prefix of the text that isn't all of it
abbrev pub AppendsPart : Option (List ℕ) → Option (List ℕ) → List ℕ → Type 0
AppendsPart None new text = ⊤
AppendsPart (Some xs) None text = ⊥
AppendsPart (Some xs) (Some ys) text = (n : ℕ) × (n < length text) × (ys ≡ xs ++ take n text)
