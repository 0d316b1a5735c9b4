-- The number of sessions that have a transaction open.
use Rattle.std.specs.Prelude.{ℕ, zero, suc, ◌+◌, Bool, is_some, if◌then◌else◌}
use Rattle.pc_types.specs.declared.limits.TheConstants.{MOST_SESSIONS}
use Rattle.pc_model.specs.History.{History}
use Rattle.pc_model.specs.Replies.{Setting}
use Rattle.pc_engine.specs.Store.{Store, active_of}
use Rattle.pc_engine.specs.Waiting.{opens_after}

-- by the store the session has a transaction open
abbrev pub opens_now : Store → ℕ → Bool
opens_now world s = is_some (active_of world s)

-- how many of the sessions from 1 to this number pass the test
abbrev pub counted_to : (ℕ → Bool) → ℕ → ℕ
counted_to test zero = 0
counted_to test (suc n) = counted_to test n + (if test (suc n) then 1 else 0)

-- how many sessions have a transaction open, by the store
abbrev pub open_now : Store → ℕ
open_now world = counted_to (opens_now world) MOST_SESSIONS

-- the same after the history
abbrev pub open_after : Setting → History → ℕ
open_after st history = counted_to (λ s. opens_after st s history) MOST_SESSIONS
