-- The agreement of the table of changes with the rules of replies.
use Rattle.std.specs.Prelude.{◌≡◌, ℕ, ◌==◌, Bool, true, false, List, [], ◌∷◌, length, option_map}
use Rattle.pc_types.specs.declared.Class.{Class}
use Rattle.pc_types.specs.declared.Event.{Event}
use Rattle.pc_types.specs.declared.Event.TheVariants as asked
use Rattle.pc_types.specs.declared.Reply.{Reply}
use Rattle.pc_types.specs.declared.Reply.TheVariants as told
use Rattle.pc_types.specs.declared.Step.{Step}
use Rattle.pc_types.specs.declared.Refusal.{Refusal}
use Rattle.pc_types.specs.declared.Refusal.TheVariants as why
use Rattle.pc_model.specs.History.{History, Effect, effect, phase_of, point_of, is_open, class_of, class_in}
use Rattle.pc_model.specs.History.Effect.{Begins, Commits, Aborts, Moves, Shelves}
use Rattle.pc_types.specs.declared.Phase.TheVariants as phase
use Rattle.pc_types.specs.declared.limits.TheConstants.{MOST_FILES}
use Rattle.pc_model.specs.Files.{shelf}
use Rattle.pc_model.specs.Replies.{Setting, active_in_class, closed_set, log_is_full, first_refusal, or_else, certain, Answers, no_session}
use Rattle.pc_phase.specs.declared.change.Change.{Change}
use Rattle.pc_phase.specs.declared.change.Change.TheVariants as change
use Rattle.pc_phase.specs.declared.change.Held.{Held}
use Rattle.pc_phase.specs.declared.change.Held.TheVariants.{WrongPhase, PointsFull, NotYet}
use Rattle.pc_phase.specs.Phases.{Phases, active_count, held_back, advanced, entered, left}

-- the event that asks for the change
abbrev pub change_event : Change → Event
change_event change.StartPoint = asked.StartPoint
change_event change.Seal = asked.Seal
change_event change.OpenCapture = asked.OpenCapture
change_event change.Done = asked.Done
change_event change.Rest = asked.Rest

-- how the cause that holds a change back is returned
abbrev pub reply_of : Held → Reply
reply_of WrongPhase = told.Refused why.WrongPhase
reply_of PointsFull = told.Refused why.PointsFull
reply_of (NotYet count) = told.NotYet count

-- the phase, the point and the counts are those of the history
pub record AreOf (st : Setting) (history : History) (phases : Phases) : Type 0 where
  pub phase : phases.phase ≡ phase_of history
  pub point : phases.point ≡ point_of history
  pub active : (class : Class) → active_count phases class ≡ active_in_class st class history

-- the causes that are asked for if nothing holds the change back: at Done the shelf's, and then the log's
abbrev pub later_causes : Setting → Change → History → List (Bool × Refusal)
later_causes st change.Done history = (length (shelf st.run history) == MOST_FILES, why.ShelfFull) ∷ (log_is_full history, why.LogFull) ∷ []
later_causes st other history = (log_is_full history, why.LogFull) ∷ []

-- if the counts are those of the history, the reply that is certain is what holds the change back, or else a later cause
abbrev pub HeldBackIsCertain : Type 0
HeldBackIsCertain =
    (st : Setting) (history : History) (phases : Phases) (change : Change) → AreOf st history phases →
    certain st history (change_event change) ≡ or_else (option_map reply_of (held_back phases change (length (closed_set history)))) (first_refusal (later_causes st change history))

-- once a change was answered by the rules, the phase, the point and the counts are still those of the history
abbrev pub ChangesStayOf : Type 0
ChangesStayOf =
    (st : Setting) (history : History) (phases : Phases) (change : Change) (reply : Reply) → AreOf st history phases → Answers st history (change_event change) reply →
    AreOf st (record { event = change_event change; reply = reply } ∷ history) (advanced phases change)

-- a begin that was answered by the rules enters its transaction
abbrev pub BeginsStayOf : Type 0
BeginsStayOf =
    (st : Setting) (history : History) (phases : Phases) (s number : ℕ) → AreOf st history phases → no_session st s ≡ false → is_open s history ≡ false →
    AreOf st (record { event = asked.Begin s; reply = told.Begun number } ∷ history) (entered phases (class_in phases.phase))

-- by this step the session's transaction leaves
abbrev pub LeavesBy : Setting → History → Phases → ℕ → Step → Type 0
LeavesBy st history phases s step = AreOf st history phases → no_session st s ≡ false → is_open s history ≡ true → AreOf st (step ∷ history) (left phases (class_of s history))

-- a commit and an abort that were answered by the rules end their transaction
abbrev pub EndsStayOf : Type 0
EndsStayOf =
    (st : Setting) (history : History) (phases : Phases) (s lsn : ℕ) →
    LeavesBy st history phases s (record { event = asked.Commit s; reply = told.Committed lsn }) × LeavesBy st history phases s (record { event = asked.Abort s; reply = told.Aborted })

-- before the first step: rest, no point, and no active transaction
abbrev pub StartsOf : Type 0
StartsOf = (st : Setting) → AreOf st [] (record { phase = phase.Rest; point = 0; before = 0; during = 0; after = 0 })

-- the effect is neither a begin, nor an end of a transaction, nor a change of the phase
abbrev pub is_other : Effect → Bool
is_other (Begins s) = false
is_other (Commits s) = false
is_other (Aborts s) = false
is_other (Moves phase point) = false
is_other (Shelves point) = false
is_other other = true

-- every other step leaves the phase, the point and the counts
abbrev pub OthersStayOf : Type 0
OthersStayOf = (st : Setting) (history : History) (phases : Phases) (step : Step) → AreOf st history phases → is_other (effect step) ≡ true → AreOf st (step ∷ history) phases
