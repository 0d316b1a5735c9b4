-- The requests that the end of a transaction grants.
use Rattle.std.specs.Prelude.{◌≡◌, ℕ, true, false}
use Rattle.pc_model.specs.History.{History}
use Rattle.pc_model.specs.Replies.{Setting}
use Rattle.pc_engine.specs.Waiting.{waits_after}
use Rattle.pc_sessions.specs.SessionSets.{has_session}

-- after this history the request of a session whose call sleeps no longer waits
abbrev pub HasGranted : Setting → History → ℕ → Type 0
HasGranted st history bits = (s : ℕ) × (has_session bits s ≡ true) × (waits_after st s history ≡ false)
