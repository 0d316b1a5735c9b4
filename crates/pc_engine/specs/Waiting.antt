-- The sessions with an open transaction, and those that wait for a lock.
use Rattle.std.specs.Prelude.{ℕ, ◌&&◌, Bool, false, if◌then◌else◌}
use Rattle.pc_model.specs.History.{History, is_open}
use Rattle.pc_model.specs.Locks.{is_waiting}
use Rattle.pc_model.specs.Replies.{Setting, no_session}

-- after this history a request of the session's open transaction waits; none does if no session has this number
abbrev pub waits_after : Setting → ℕ → History → Bool
waits_after st s history = if no_session st s then false else (is_open s history && is_waiting s history)

-- after this history the session has a transaction open; none has if no session has this number
abbrev pub opens_after : Setting → ℕ → History → Bool
opens_after st s history = if no_session st s then false else is_open s history
