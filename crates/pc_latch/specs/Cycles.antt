-- The checkpointer's calls, and the phases that they enter.
use Rattle.std.specs.Prelude.{ℕ, List, [], ◌∷◌, ◌++◌}
use Rattle.pc_types.specs.declared.Event.{Event}
use Rattle.pc_types.specs.declared.Event.TheVariants as asked
use Rattle.pc_types.specs.declared.Phase.{Phase}
use Rattle.pc_types.specs.declared.Phase.TheVariants.{Rest, Prepare, Resolve, Capture, Complete}
use Rattle.pc_types.specs.declared.Reply.{Reply}
use Rattle.pc_model.specs.History.{History, Effect, effect, phase_of}
use Rattle.pc_model.specs.History.Effect.{Moves, Shelves}
use Rattle.pc_model.specs.Headline.{TakesPointValue}
use Rattle.pc_model.specs.Replies.{Setting}
use Rattle.pc_model.specs.Calls.{step_of, IsAnswered}
use Rattle.pc_tie.specs.Seats.{MovesOn}

-- the event that ends a phase
abbrev pub next_event : Phase → Event
next_event Rest = asked.StartPoint
next_event Prepare = asked.Seal
next_event Resolve = asked.OpenCapture
next_event Capture = asked.Done
next_event Complete = asked.Rest

-- The checkpointer made a call with the event, and got this reply, which extends the history that it has seen. The reply is one
-- that the store may give after some legal history with all that the checkpointer had seen, and no other call of it. Each take that
-- it has seen has carried its key's value at the point.
pub record IsCalled (st : Setting) (before : History) (event : Event) (reply : Reply) (after : History) : Type 0 where
  pub moves : MovesOn st before (step_of event reply) after
  pub answered : IsAnswered st 0 before event reply
  pub values : TakesPointValue st.base after

-- it called with the event that ends the phase
abbrev pub IsAdvance : Setting → History → Reply → History → Type 0
IsAdvance st before reply after = IsCalled st before (next_event (phase_of before)) reply after

-- it called for a key of the point
abbrev pub IsTakeCalled : Setting → History → Reply → History → Type 0
IsTakeCalled st before reply after = IsCalled st before asked.Take reply after

-- the phase that an effect enters, with its point, if it enters one
abbrev pub entered_by : Effect → List (Phase × ℕ)
entered_by (Moves phase point) = (phase, point) ∷ []
entered_by (Shelves point) = (Complete, point) ∷ []
entered_by other = []

-- the phases that were entered, each with its point, in their order
abbrev pub phases_entered : History → List (Phase × ℕ)
phases_entered [] = []
phases_entered (step ∷ history) = phases_entered history ++ entered_by (effect step)

-- the point whose part was put on the shelf as the phase was entered, if one was
abbrev pub done_in : Phase → ℕ → List ℕ
done_in Complete point = point ∷ []
done_in other point = []

-- of phases that were entered, the points whose parts were put on the shelf
abbrev pub done_among : List (Phase × ℕ) → List ℕ
done_among [] = []
done_among (entered ∷ later) = done_in entered.0 entered.1 ++ done_among later

-- the points whose parts were put on the shelf, in their order
abbrev pub points_done : History → List ℕ
points_done history = done_among (phases_entered history)
