-- Whether a number is one of these.
use Rattle.std.specs.Prelude.{ℕ, Bool, List}
use Rattle.std.specs.Ordering.{nat_cmp, eq_by_cmp}
use Rattle.std.specs.List.{list_any}

-- two numbers are the same
abbrev pub same_number : ℕ → ℕ → Bool
same_number = eq_by_cmp nat_cmp

-- the number is one of these
abbrev pub is_one_of : ℕ → List ℕ → Bool
is_one_of p ps = list_any (same_number p) ps
