-- The answers to the lines of a served store.
use Rattle.std.specs.Prelude.{◌≡◌, ◌==◌, ◌&&◌, ◌||◌, not, ℕ, zero, suc, Bool, true, false, List, [], ◌∷◌, ◌++◌, codes, decimal, MatchBool, if◌then◌else◌}
use Rattle.pc_types.specs.declared.Event.{Event}
use Rattle.pc_types.specs.declared.Event.TheVariants as asked
use Rattle.pc_types.specs.declared.Refusal.TheVariants as why
use Rattle.pc_types.specs.declared.Reply.{Reply}
use Rattle.pc_types.specs.declared.Reply.TheVariants as told
use Rattle.pc_types.specs.declared.Step.{Step}
use Rattle.pc_types.specs.declared.limits.TheConstants.{MOST_SESSIONS}
use Rattle.pc_sessions.specs.SessionSets.{has_session}
use Rattle.pc_model.specs.Calls.{session_of}
use Rattle.pc_model.specs.History.{History}
use Rattle.pc_model.specs.Replies.{Setting, IsLegal}
use Rattle.pc_engine.specs.Stands.{Stands}
use Rattle.pc_engine.specs.Store.{Store, setting_of}
use Rattle.pc_engine.specs.Waiting.{waits_after}
use Rattle.pc_lines.specs.declared.lines.Line.{Line}
use Rattle.pc_lines.specs.declared.lines.Line.TheVariants as line
use Rattle.pc_script.specs.declared.script.LineAnswer.{LineAnswer}
use Rattle.pc_script.specs.Scripts.{AnswersLine, answer_text, refusal_answer}
use Rattle.pc_texts.specs.Texts.{reply_text}
use Rattle.pc_serving.specs.Points.{is_checkpoint}

-- a session asks it: the process itself takes points, and joins are no part of serving
abbrev pub is_of_client : Event → Bool
is_of_client (asked.Join first second) = false
is_of_client event = not (is_checkpoint event)

-- the reply makes its session wait
abbrev pub is_wait : Reply → Bool
is_wait told.Wait = true
is_wait other = false

-- The session was answered that it waits, and its request was still not granted after the last event of a client.
abbrev pub awaits : Setting → ℕ → History → Bool
awaits st s [] = false
awaits st s (step ∷ history) =
    if is_checkpoint step.event then awaits st s history
    else waits_after st s (step ∷ history) && ((is_wait step.reply && (s == session_of step.event)) || awaits st s history)

-- the step, after this history, has granted the request of another waiting session
abbrev pub is_granted_by : Setting → ℕ → Step → History → Bool
is_granted_by st s step history = awaits st s history && not (waits_after st s (step ∷ history)) && not (s == session_of step.event)

-- the line that reports that the session's request was granted
abbrev pub granted_line : ℕ → List ℕ
granted_line s = codes "granted " ++ (decimal s ++ codes "\n")

-- those of the sessions up to this number whose requests the step has granted, by their numbers
abbrev pub granted_to : Setting → Step → History → ℕ → List ℕ
granted_to st step history zero = []
granted_to st step history (suc n) = granted_to st step history n ++ (if is_granted_by st (suc n) step history then granted_line (suc n) else [])

-- those of all sessions
abbrev pub granted_text : Setting → Step → History → List ℕ
granted_text st step history = granted_to st step history MOST_SESSIONS

-- the text of a refusal, with the end of its line
abbrev pub wrong_phase_text : List ℕ
wrong_phase_text = answer_text (refusal_answer why.WrongPhase)

-- An event of a client has some legal reply, and the history grows by it; the reply is printed, and after it whose requests it
-- has granted. One that isn't a client's is refused, and changes nothing.
abbrev pub AnswersEvent : Setting → History → Event → List ℕ → History → Type 0
AnswersEvent st before event text after =
    MatchBool (is_of_client event)
    ((reply : Reply) × IsLegal st before event reply × (after ≡ record { event = event; reply = reply } ∷ before)
    × (text ≡ (reply_text reply ++ codes "\n") ++ granted_text st (record { event = event; reply = reply }) before))
    ((text ≡ wrong_phase_text) × (after ≡ before))

-- what a line may be answered, and the history then; no line but an event's changes anything
abbrev pub AnswersServed : Setting → History → Line → List ℕ → History → Type 0
AnswersServed st before (line.Asks event) text after = AnswersEvent st before event text after
AnswersServed st before other text after = (said : LineAnswer) × AnswersLine st before other said after × (text ≡ answer_text said)

-- the store that is served, whose waiting sessions are these, represents the history
pub record Serves (st : Setting) (world : Store) (waiting : ℕ) (history : History) : Type 0 where
  pub stands : Stands world history
  pub setting : setting_of world ≡ st
  pub awaited : (s : ℕ) → has_session waiting s ≡ awaits st s history
