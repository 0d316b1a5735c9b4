-- What a witness proves of an answer to the checkpointer.
use Rattle.std.specs.Prelude.{◌≡◌, ◌∷◌}
use Rattle.pc_types.specs.declared.Reply.{Reply}
use Rattle.pc_model.specs.Calls.{step_of, IsBeginning}
use Rattle.pc_model.specs.History.{History, phase_of}
use Rattle.pc_model.specs.Replies.{Setting, IsLegalHistory}
use Rattle.pc_latch.specs.Cycles.{next_event}

-- The legal history begins with the one that the checkpointer has seen, and ends with this answer to the event that ends the phase.
pub record EndsWithAdvance (st : Setting) (seen : History) (reply : Reply) (history : History) : Type 0 where
  pub legal : IsLegalHistory st history
  pub had_seen : IsBeginning seen history
  pub before : History
  pub last : history ≡ step_of (next_event (phase_of before)) reply ∷ before
