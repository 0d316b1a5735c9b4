-- The answers to a session's calls.
use Rattle.std.specs.Prelude.{ℕ, ℤ, Bool, true, false, List, Option, Some, None, Result, Ok, Err}
use Rattle.pc_types.specs.declared.Event.{Event}
use Rattle.pc_types.specs.declared.Event.TheVariants as asked
use Rattle.pc_types.specs.declared.Refusal.TheVariants as why
use Rattle.pc_types.specs.declared.Reply.{Reply}
use Rattle.pc_types.specs.declared.Reply.TheVariants as told
use Rattle.pc_model.specs.History.{History}
use Rattle.pc_model.specs.Replies.{Setting}
use Rattle.pc_model.specs.Calls.{step_of, Extends}
use Rattle.pc_txn.specs.declared.got.Got.{Got}
use Rattle.pc_txn.specs.declared.got.Got.TheVariants as got
use Rattle.pc_types.specs.declared.Outcome.{Outcome}
use Rattle.pc_types.specs.declared.Outcome.TheVariants.{Granted, Queued, Died}
use Rattle.pc_types.specs.declared.Refusal.{Refusal}
use Rattle.pc_answers.specs.declared.answers.GetAnswer.{GetAnswer}
use Rattle.pc_answers.specs.declared.answers.GetAnswer.TheVariants as read
use Rattle.pc_answers.specs.declared.answers.AddAnswer.{AddAnswer}
use Rattle.pc_answers.specs.declared.answers.AddAnswer.TheVariants as added

-- the reply says that the session's request waits
abbrev pub is_waiting_reply : Reply → Bool
is_waiting_reply told.Wait = true
is_waiting_reply (told.Refused why.StillWaiting) = true
is_waiting_reply other = false

-- a read was so answered, and the session has then seen the second history
abbrev pub IsGot : Setting → History → ℕ → List ℕ → Got → History → Type 0
IsGot st before s key (got.Found value) after = Extends st before (step_of (asked.Get s key) (told.Found value)) after
IsGot st before s key got.Absent after = Extends st before (step_of (asked.Get s key) told.Absent) after
IsGot st before s key got.Died after = Extends st before (step_of (asked.Get s key) told.Died) after

-- a write was made, or its request died
abbrev pub IsWriteMade : Setting → History → Event → Bool → History → Type 0
IsWriteMade st before event true after = Extends st before (step_of event told.Ok) after
IsWriteMade st before event false after = Extends st before (step_of event told.Died) after

-- an add gave this sum, or its request died
abbrev pub IsAdded : Setting → History → Event → Option ℤ → History → Type 0
IsAdded st before event (Some sum) after = Extends st before (step_of event (told.Sum sum)) after
IsAdded st before event None after = Extends st before (step_of event told.Died) after

-- the event that sets the key to the content, or removes it
abbrev pub write_event : ℕ → List ℕ → Option (List ℕ) → Event
write_event s key (Some value) = asked.Put s key value
write_event s key None = asked.Del s key

-- the result of a read that doesn't wait, with whether it was of an own write
abbrev pub got_in : Bool → Result GetAnswer Refusal → Result (Got × Bool) Refusal
got_in own (Ok (read.Found value)) = Ok (got.Found value, own)
got_in own (Ok read.Absent) = Ok (got.Absent, own)
got_in own (Ok read.Wait) = Ok (got.Died, own)
got_in own (Ok read.Died) = Ok (got.Died, own)
got_in own (Err e) = Err e

-- whether a write that doesn't wait was made
abbrev pub made_in : Result Outcome Refusal → Result Bool Refusal
made_in (Ok Granted) = Ok true
made_in (Ok Queued) = Ok false
made_in (Ok Died) = Ok false
made_in (Err e) = Err e

-- the sum of an add that doesn't wait; none if its request died
abbrev pub answered_sum : Result AddAnswer Refusal → Result (Option ℤ) Refusal
answered_sum (Ok (added.Sum sum)) = Ok (Some sum)
answered_sum (Ok added.Wait) = Ok None
answered_sum (Ok added.Died) = Ok None
answered_sum (Err e) = Err e
