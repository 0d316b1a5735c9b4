-- Sets of sessions: a number with a bit for each session.
use Rattle.std.specs.Prelude.{ℕ, ◌-◌, ◌^◌, ◌==◌, nat_lt, ◌&&◌, not, Bool, if◌then◌else◌}
use Rattle.std.specs.Int.{bit_at}
use Rattle.pc_types.specs.declared.limits.TheConstants.{MOST_SESSIONS}

-- a session may have this number
abbrev pub is_number : ℕ → Bool
is_number s = not (s == 0) && not (nat_lt MOST_SESSIONS s)

-- the bit of the session, the lowest for session 1; none if no session has this number
abbrev pub bit_of : ℕ → ℕ
bit_of s = if is_number s then 2 ^ (s - 1) else 0

-- the set has the session
abbrev pub has_session : ℕ → ℕ → Bool
has_session bits s = is_number s && (bit_at bits (s - 1) == 1)
