-- A session's calls.
use Rattle.std.specs.Prelude.{◌≡◌}
use Rattle.pc_types.specs.declared.Event.{Event}
use Rattle.pc_types.specs.declared.Reply.{Reply}
use Rattle.pc_model.specs.Replies.{Setting}
use Rattle.pc_model.specs.Calls.{step_of, IsAnswered}
use Rattle.pc_tie.specs.declared.sight.Sitting.{Sitting}
use Rattle.pc_tie.specs.Seats.{MovesOn}

-- The session made a call with the event, and got this reply. It keeps its number, and the history that it has seen is extended by
-- the call. The reply is one that the store may give after some legal history with all that the session had seen, and no other call
-- of it.
pub record IsAsked (st : Setting) (before : Sitting) (event : Event) (reply : Reply) (after : Sitting) : Type 0 where
  pub number : after.number ≡ before.number
  pub moves : MovesOn st before.seen (step_of event reply) after.seen
  pub answered : IsAnswered st before.number before.seen event reply
