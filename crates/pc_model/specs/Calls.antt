-- Sessions' calls in a history: which steps are a session's own, and what a session that has seen a prefix of a history
-- knows of it.
use Rattle.std.specs.Prelude.{◌≡◌, ◌==◌, ◌&&◌, ℕ, ℤ, Bool, true, false, List, [], ◌∷◌, ◌++◌}
use Rattle.std.specs.List.{filter}
use Rattle.pc_types.specs.declared.Event.{Event}
use Rattle.pc_types.specs.declared.Event.TheVariants as asked
use Rattle.pc_types.specs.declared.Reply.{Reply}
use Rattle.pc_types.specs.declared.Reply.TheVariants as told
use Rattle.pc_types.specs.declared.Step.{Step}
use Rattle.pc_model.specs.History.{History}
use Rattle.pc_model.specs.Replies.{Setting, IsLegal, IsLegalHistory}

-- an event with its reply
abbrev pub step_of : Event → Reply → Step
step_of event reply = record { event = event; reply = reply }

-- the session that asks, or 0 if the checkpointer does
abbrev pub session_of : Event → ℕ
session_of (asked.Begin s) = s
session_of (asked.Get s key) = s
session_of (asked.Put s key value) = s
session_of (asked.Del s key) = s
session_of (asked.Add s key delta) = s
session_of (asked.Commit s) = s
session_of (asked.Abort s) = s
session_of other = 0

-- the reply counts: it is neither a wait nor a refusal
abbrev pub counts : Reply → Bool
counts told.Wait = false
counts (told.Refused why) = false
counts other = true

-- a call of the session: it asked, and was answered so that it counts
abbrev pub is_call_of : ℕ → Step → Bool
is_call_of s step = counts step.reply && (session_of step.event == s)

-- the session's calls in the history
abbrev pub calls_of : ℕ → History → History
calls_of s history = filter (is_call_of s) history

-- the first history is a prefix of the second
abbrev pub IsBeginning : History → History → Type 0
IsBeginning early late = (since : History) × (late ≡ since ++ early)

-- a legal history that begins with the one before, ends with the step, and has no call of its session between
abbrev pub Extends : Setting → History → Step → History → Type 0
Extends st before step after = IsLegalHistory st after × ((between : History) × (after ≡ step ∷ (between ++ before)) × (calls_of (session_of step.event) between ≡ []))

-- the history begins with what the session has seen, and has no other call of it
abbrev pub HasCallsOf : History → ℕ → History → Type 0
HasCallsOf history s seen = IsBeginning seen history × (calls_of s history ≡ calls_of s seen)

-- the reply is legal after some legal history that begins with what the session has seen, and has no other call of it
abbrev pub IsAnswered : Setting → ℕ → History → Event → Reply → Type 0
IsAnswered st s seen event reply = (history : History) × IsLegalHistory st history × HasCallsOf history s seen × IsLegal st history event reply

-- what the session asks of an open transaction
pub data AsksOpen (s : ℕ) : Event → Type 0 where
  Gets : (key : List ℕ) → AsksOpen s (asked.Get s key)
  Puts : (key value : List ℕ) → AsksOpen s (asked.Put s key value)
  Dels : (key : List ℕ) → AsksOpen s (asked.Del s key)
  Adds : (key : List ℕ) (delta : ℤ) → AsksOpen s (asked.Add s key delta)
  Commits : AsksOpen s (asked.Commit s)
  Aborts : AsksOpen s (asked.Abort s)
