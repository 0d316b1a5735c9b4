-- After every history every event has a legal reply: the one that is given with ample memory.
use Rattle.pc_types.specs.Changes.{added}
use Rattle.std.proofs.Common.{◌≡◌, ℕ, ◌+◌, List, [], ◌∷◌, length, Option, Some, None, refl, subst, ◌⊎◌, inl, inr, Bool, reverse, map, true, false}
use Rattle.std.specs.Prelude.{MatchOption, if◌then◌else◌}
use Rattle.pc_types.specs.declared.Phase.TheVariants as phase
use Rattle.pc_types.specs.declared.Event.{Event}
use Rattle.pc_types.specs.declared.Event.TheVariants as asked
use Rattle.pc_types.specs.declared.Reply.{Reply}
use Rattle.pc_types.specs.declared.Reply.TheVariants as told
use Rattle.pc_types.specs.declared.Refusal.TheVariants as why
use Rattle.pc_types.specs.declared.Mode.TheVariants.{Shared, Exclusive}
use Rattle.pc_model.specs.Maps as map_of
use Rattle.pc_model.specs.Sets as set
use Rattle.pc_model.specs.Database.{Database, written, seen}
use Rattle.pc_model.specs.Log.{state_at}
use Rattle.pc_types.specs.declared.Step.{Step}
use Rattle.pc_model.specs.History.{History, writes_of, log_of, contents, begun, transaction_number_of, point_of}
use Rattle.pc_model.specs.Locks.{outcome, queue_of}
use Rattle.pc_model.specs.Points.{taken}
use Rattle.pc_model.specs.Files.{File, shelf, file_at, join_of}
use Rattle.pc_model.specs.Replies.{Setting, closed_set, certain, or_else, is_empty, join_refusal, read_reply, by_outcome, TakesFirst, IsFileReply, Answers, IsLegal, IsLegalHistory, wrong_phase, seen_by, sum_or_zero}

-- the Took of the first key, with what the database has
abbrev pub take_reply : List (List ℕ) → Database → Reply
take_reply [] db = told.NoneLeft
take_reply (key ∷ keys) db = told.Took key (map_of.get db key)

abbrev pub file_reply : List File → ℕ → Reply
file_reply [] number = told.Refused why.NoFile
file_reply (f ∷ fs) number = told.File number (set.items f.points) (map_of.len f.triples)

-- the answer to an event if no reply is certain; a Take carries the state of the point
abbrev pub answer : Setting → History → Event → Reply
answer st history (asked.Begin s) = told.Begun (begun history + 1)
answer st history (asked.Get s key) =
    by_outcome (outcome (queue_of key history) (transaction_number_of s history) Shared) (read_reply (seen (written (writes_of s history) key) (map_of.get (contents st.base history) key)))
answer st history (asked.Put s key value) = by_outcome (outcome (queue_of key history) (transaction_number_of s history) Exclusive) told.Ok
answer st history (asked.Del s key) = by_outcome (outcome (queue_of key history) (transaction_number_of s history) Exclusive) told.Ok
answer st history (asked.Add s key delta) = by_outcome (outcome (queue_of key history) (transaction_number_of s history) Exclusive) (told.Sum (sum_or_zero (added delta (seen_by st s key history))))
answer st history (asked.Commit s) = told.Committed (length (log_of history) + 1)
answer st history (asked.Abort s) = told.Aborted
answer st history asked.StartPoint = told.Phase phase.Prepare (point_of history + 1)
answer st history asked.Seal = told.Phase phase.Resolve (point_of history)
answer st history asked.OpenCapture = told.Phase phase.Capture (point_of history)
answer st history asked.Take = take_reply (closed_set history) (state_at st.base (log_of history) (point_of history))
answer st history asked.Done = told.PartDone (point_of history) (length (shelf st.run history) + 1) (length (taken history))
answer st history asked.Rest = told.Phase phase.Rest (point_of history)
answer st history (asked.Join a b) = file_reply (join_of (file_at (shelf st.run history) a) (file_at (shelf st.run history) b)) (length (shelf st.run history) + 1)

abbrev pub or_answer : Option Reply → Reply → Reply
or_answer None reply = reply
or_answer (Some due) reply = due

-- the reply with ample memory
abbrev pub ample_reply : Setting → History → Event → Reply
ample_reply st history event = or_answer (certain st history event) (answer st history event)

legal_where : (st : Setting) (history : History) (event : Event) (reply : Reply) → (certain st history event ≡ None → Answers st history event reply) →
    IsLegal st history event (or_answer (certain st history event) reply)
legal_where st history event reply answers =
    elim (certain st history event) as (λ c. certain st history event ≡ c → MatchOption c (Answers st history event (or_answer c reply) ⊎ (or_answer c reply ≡ told.Refused why.OutOfMemory)) (λ due. or_answer c reply ≡ due)) [
      | None ↦ λ none. inl (answers none)
      | Some due ↦ λ _. refl
    ] refl

never_none : (w : Option Reply) (r : Reply) → or_else w (Some r) ≡ None → ⊥
never_none None r e = cc
never_none (Some w) r e = cc

take_answers : (w : Option Reply) (keys : List (List ℕ)) (db : Database) → or_else w (if is_empty keys then Some told.NoneLeft else None) ≡ None → TakesFirst keys (take_reply keys db)
take_answers None [] db e = cc
take_answers (Some w) [] db e = cc
take_answers w (key ∷ keys) db e = (map_of.get db key, refl)

join_answers : (files : List File) (a b : Option File) (number : ℕ) → join_refusal files a b ≡ None → IsFileReply (join_of a b) number (file_reply (join_of a b) number)
join_answers files None b number e = cc
join_answers files (Some a) None number e = cc
join_answers files (Some a) (Some b) number e = refl

-- the reply with ample memory is legal
pub ample_is_legal : (st : Setting) (history : History) (event : Event) → IsLegal st history event (ample_reply st history event)
ample_is_legal st history (asked.Begin s) = legal_where st history (asked.Begin s) _ (λ _. refl)
ample_is_legal st history (asked.Get s key) = legal_where st history (asked.Get s key) _ (λ _. refl)
ample_is_legal st history (asked.Put s key value) = legal_where st history (asked.Put s key value) _ (λ _. refl)
ample_is_legal st history (asked.Del s key) = legal_where st history (asked.Del s key) _ (λ _. refl)
ample_is_legal st history (asked.Add s key delta) = legal_where st history (asked.Add s key delta) _ (λ _. refl)
ample_is_legal st history (asked.Commit s) = legal_where st history (asked.Commit s) _ (λ _. refl)
ample_is_legal st history (asked.Abort s) = legal_where st history (asked.Abort s) _ (λ none. never_none _ _ none)
ample_is_legal st history asked.StartPoint = legal_where st history asked.StartPoint _ (λ _. refl)
ample_is_legal st history asked.Seal = legal_where st history asked.Seal _ (λ _. refl)
ample_is_legal st history asked.OpenCapture = legal_where st history asked.OpenCapture _ (λ _. refl)
ample_is_legal st history asked.Take = legal_where st history asked.Take _ (λ none. take_answers (wrong_phase phase.Capture history) (closed_set history) _ none)
ample_is_legal st history asked.Done = legal_where st history asked.Done _ (λ _. refl)
ample_is_legal st history asked.Rest = legal_where st history asked.Rest _ (λ _. refl)
ample_is_legal st history (asked.Join a b) = legal_where st history (asked.Join a b) _ (λ none. join_answers _ _ _ _ none)

-- the history after the events, from this history on, with ample memory
abbrev pub play : Setting → History → List Event → History
play st history [] = history
play st history (event ∷ events) = play st (record { event = event; reply = ample_reply st history event } ∷ history) events

pub played_is_legal : (st : Setting) (history : History) (events : List Event) → IsLegalHistory st history → IsLegalHistory st (play st history events)
played_is_legal st history [] legal = legal
played_is_legal st history (event ∷ events) legal = played_is_legal st (record { event = event; reply = ample_reply st history event } ∷ history) events (ample_is_legal st history event, legal)

-- steps, the first one first, are a legal history if their events give just these replies
pub legal_run : (st : Setting) (steps : List Step) → play st [] (map (λ step. step.event) steps) ≡ reverse steps → IsLegalHistory st (reverse steps)
legal_run st steps same = subst (IsLegalHistory st) same (played_is_legal st [] (map (λ step. step.event) steps) tt)

-- whether the reply is that an allocation failed
abbrev is_memory : Reply → Bool
is_memory (told.Refused why.OutOfMemory) = true
is_memory other = false

-- the reply if an allocation failed, or else the one with ample memory
abbrev pub lean_reply : Setting → History → Event → Bool → Reply
lean_reply st history event true = or_answer (certain st history event) (told.Refused why.OutOfMemory)
lean_reply st history event false = ample_reply st history event

lean_is_legal : (st : Setting) (history : History) (event : Event) (refused : Bool) → IsLegal st history event (lean_reply st history event refused)
lean_is_legal st history event false = ample_is_legal st history event
lean_is_legal st history event true =
    elim (certain st history event) as (λ c. MatchOption c (Answers st history event (or_answer c (told.Refused why.OutOfMemory)) ⊎ (or_answer c (told.Refused why.OutOfMemory) ≡ told.Refused why.OutOfMemory)) (λ due. or_answer c (told.Refused why.OutOfMemory) ≡ due)) [
      | None ↦ inr refl
      | Some due ↦ refl
    ]

-- the history after the steps' events, from this history on, if an allocation fails if and only if the steps say so
abbrev pub play_lean : Setting → History → List Step → History
play_lean st history [] = history
play_lean st history (step ∷ steps) = play_lean st (record { event = step.event; reply = lean_reply st history step.event (is_memory step.reply) } ∷ history) steps

played_lean_is_legal : (st : Setting) (history : History) (steps : List Step) → IsLegalHistory st history → IsLegalHistory st (play_lean st history steps)
played_lean_is_legal st history [] legal = legal
played_lean_is_legal st history (step ∷ steps) legal =
    played_lean_is_legal st (record { event = step.event; reply = lean_reply st history step.event (is_memory step.reply) } ∷ history) steps (lean_is_legal st history step.event (is_memory step.reply), legal)

-- the same if an allocation may fail
pub legal_lean_run : (st : Setting) (steps : List Step) → play_lean st [] steps ≡ reverse steps → IsLegalHistory st (reverse steps)
legal_lean_run st steps same = subst (IsLegalHistory st) same (played_lean_is_legal st [] steps tt)
