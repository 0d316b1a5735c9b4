-- How long the checkpointer's turns are, and when it has rested after one.
use Rattle.std.specs.Prelude.{ℕ, zero, ◌*◌, ◌/◌, min, max, Bool, nat_le}
use Rattle.pc_workers.specs.declared.pace.TheConstants.{FIRST_TAKES, MOST_TAKES, LOOKS_ALONE}

-- the number of keys in a turn after one of `taken` keys, if this many were committed since that one began
abbrev pub turn_behind : ℕ → ℕ → ℕ
turn_behind turn zero = min (turn * 2) MOST_TAKES
turn_behind turn committed = min (max (committed / 2) FIRST_TAKES) MOST_TAKES

-- whether the checkpointer has rested after a turn of this many keys, if this many were committed since it began, after this many looks
abbrev pub has_rested : ℕ → ℕ → ℕ → Bool
has_rested turn zero looks = nat_le LOOKS_ALONE looks
has_rested turn committed looks = nat_le (turn * 2) committed
