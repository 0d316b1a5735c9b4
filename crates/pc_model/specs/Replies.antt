-- The legal replies to an event after a history: first the refusals in their order, then the answer.
use Rattle.std.specs.Prelude.{◌≡◌, ℕ, ◌+◌, ◌==◌, ◌&&◌, ◌||◌, not, nat_lt, Bool, true, false, List, [], ◌∷◌, ◌++◌, Option, Some, None, if◌then◌else◌, map, filter, length, MatchOption, ◌⊎◌, ⊤, is_some, is_none, ℤ, pos}
use Rattle.pc_types.specs.Changes.{added, can_add}
use Rattle.pc_types.specs.Changes as change
use Rattle.pc_types.specs.Phases.{same_phase, same_class}
use Rattle.pc_model.specs.Maps as map_of
use Rattle.pc_model.specs.Sets as set
use Rattle.pc_types.specs.declared.Phase.{Phase}
use Rattle.pc_types.specs.declared.Phase.TheVariants as phase
use Rattle.pc_types.specs.declared.Mode.TheVariants.{Shared, Exclusive}
use Rattle.pc_types.specs.declared.Event.{Event}
use Rattle.pc_types.specs.declared.Event.TheVariants as asked
use Rattle.pc_types.specs.declared.Reply.{Reply}
use Rattle.pc_types.specs.declared.Reply.TheVariants as told
use Rattle.pc_types.specs.declared.Refusal.{Refusal}
use Rattle.pc_types.specs.declared.Refusal.TheVariants as why
use Rattle.pc_model.specs.Database.{Database, key_order, written, seen}
use Rattle.pc_model.specs.Log.{has_token, is_resolve}
use Rattle.pc_model.specs.History.{History, Effect, effect, is_open, writes_of, log_of, contents, begun, transaction_number_of, phase_of, point_of, class_of, has_died}
use Rattle.pc_types.specs.declared.Class.{Class}
use Rattle.pc_model.specs.History.Effect.{Moves, Commits}
use Rattle.pc_types.specs.declared.Class.TheVariants.{Before, During, After}
use Rattle.pc_types.specs.declared.Outcome.{Outcome}
use Rattle.pc_model.specs.Locks.{outcome, queue_of, is_waiting}
use Rattle.pc_types.specs.declared.Outcome.TheVariants.{Granted, Queued, Died}
use Rattle.pc_types.specs.declared.limits.TheConstants.{MOST_FILES, MOST_FILE_ENTRIES, MOST_LOG_ENTRIES, MOST_POINTS, MOST_TRANSACTIONS, MOST_WRITES}
use Rattle.pc_model.specs.Points.{is_among, with_key, with_keys, touched, taken}
use Rattle.pc_model.specs.Files.{File, shelf, file_at, joined_file, join_of, conflict, numbers_to}

-- the start of a run; the base is at point 0
pub record Setting : Type 0 where
  pub run : ℕ
  pub base : Database
  pub sessions : ℕ
  pub capacity : ℕ

-- the phase is this one
abbrev pub is_in_phase : Phase → History → Bool
is_in_phase phase history = same_phase (phase_of history) phase

-- how many transactions of the class are active
abbrev pub active_in_class : Setting → Class → History → ℕ
active_in_class st class history = length (filter (λ s. is_open s history && same_class (class_of s history) class) (numbers_to st.sessions))

-- the keys that aren't among the second ones
abbrev pub without : List (List ℕ) → List (List ℕ) → List (List ℕ)
without keys gone = filter (λ key. not (is_among gone key)) keys

-- the closed set: the keys touched in the point's cycle less those taken since its token, and none if its token isn't in the log
abbrev pub closed_set : History → List (List ℕ)
closed_set history =
    let point = point_of history in
    if has_token point (log_of history) then without (touched point (log_of history)) (map (λ t. t.0) (taken history)) else []

-- the keys written since the last token after this effect, given those before
abbrev pub written_by : Effect → History → List (List ℕ) → List (List ℕ)
written_by (Moves phase point) history keys = if is_resolve phase then [] else keys
written_by (Commits s) history keys = with_keys keys (writes_of s history)
written_by other history keys = keys

-- the keys that commits wrote since the last point's token, or since the start
abbrev pub open_set : History → List (List ℕ)
open_set [] = []
open_set (step ∷ history) = written_by (effect step) history (open_set history)

-- the keys with the one that the event asks for
abbrev pub asked_by : Event → List (List ℕ) → List (List ℕ)
asked_by (asked.Get s key) keys = with_key keys key
asked_by (asked.Put s key value) keys = with_key keys key
asked_by (asked.Del s key) keys = with_key keys key
asked_by (asked.Add s key delta) keys = with_key keys key
asked_by other keys = keys

-- the keys that were asked for, each once
abbrev pub asked_for : History → List (List ℕ)
asked_for [] = []
asked_for (step ∷ history) = asked_by step.event (asked_for history)

-- the list has nothing
abbrev pub is_empty : {X : Type 0} → List X → Bool
is_empty [] = true
is_empty (x ∷ xs) = false

-- the keys that have a request, granted or waiting
abbrev pub requested : History → List (List ℕ)
requested history = filter (λ key. not (is_empty (queue_of key history))) (asked_for history)

-- the occupied keys: committed, requested, written since the last point's token, or in the closed set
abbrev pub occupied : Setting → History → set.Set key_order
occupied st history = set.from_list (map_of.keys (contents st.base history) ++ requested history ++ open_set history ++ closed_set history)

-- Full: as many keys are occupied as the capacity is, and this one isn't among them
abbrev pub is_full : Setting → List ℕ → History → Bool
is_full st key history = not (set.contains (occupied st history) key) && (set.len (occupied st history) == st.capacity)

-- the first refusal whose cause applies
abbrev pub first_refusal : List (Bool × Refusal) → Option Reply
first_refusal [] = None
first_refusal (c ∷ causes) = if c.0 then Some (told.Refused c.1) else first_refusal causes

-- the first reply if there is one, else the second
abbrev pub or_else : Option Reply → Option Reply → Option Reply
or_else (Some reply) other = Some reply
or_else None other = other

-- NoSession: number 0 or past the store's number
abbrev pub no_session : Setting → ℕ → Bool
no_session st s = (s == 0) || nat_lt st.sessions s

-- TooManyWrites: a 257th key
abbrev pub too_many : ℕ → List ℕ → History → Bool
too_many s key history = (length (writes_of s history) == MOST_WRITES) && not (is_some (written (writes_of s history) key))

-- LogFull: the log has as many entries as it may
abbrev pub log_is_full : History → Bool
log_is_full history = length (log_of history) == MOST_LOG_ENTRIES

-- the causes that every event of an open transaction but Abort has first
abbrev pub transaction_causes : Setting → ℕ → History → List (Bool × Refusal)
transaction_causes st s history =
    (no_session st s, why.NoSession) ∷ (not (is_open s history), why.NoTransaction) ∷ (is_waiting s history, why.StillWaiting) ∷ (has_died s history, why.MustAbort) ∷ []

-- those of Put, Del and Add
abbrev pub write_causes : Setting → ℕ → List ℕ → History → List (Bool × Refusal)
write_causes st s key history =
    transaction_causes st s history ++ (too_many s key history, why.TooManyWrites) ∷ (is_full st key history, why.Full) ∷ []

-- what the session's transaction sees of the key
abbrev pub seen_by : Setting → ℕ → List ℕ → History → Option (List ℕ)
seen_by st s key history = seen (written (writes_of s history) key) (map_of.get (contents st.base history) key)

-- the request is granted
abbrev pub is_granted : Outcome → Bool
is_granted Granted = true
is_granted other = false

-- the session's request to write the key would be granted
abbrev pub may_write : ℕ → List ℕ → History → Bool
may_write s key history = is_granted (outcome (queue_of key history) (transaction_number_of s history) Exclusive)

-- NotNumber: what it sees is no number
abbrev pub no_number : Setting → ℕ → List ℕ → History → Bool
no_number st s key history = is_none (change.content_number (seen_by st s key history))

-- OutOfRange: the sum leaves 64 bits, or that of all that the transaction has added to the key does
abbrev pub out_of_range : Setting → ℕ → List ℕ → ℤ → History → Bool
out_of_range st s key delta history = is_none (added delta (seen_by st s key history)) || not (can_add (written (writes_of s history) key) delta)

-- those that Add has after them, only if its lock would be granted
abbrev pub add_causes : Setting → ℕ → List ℕ → ℤ → History → List (Bool × Refusal)
add_causes st s key delta history =
    (may_write s key history && no_number st s key history, why.NotNumber) ∷ (may_write s key history && out_of_range st s key delta history, why.OutOfRange) ∷ []

-- NotYet, if some are left
abbrev pub not_yet : ℕ → Option Reply
not_yet count = if count == 0 then None else Some (told.NotYet count)

-- WrongPhase: the phase is another
abbrev pub wrong_phase : Phase → History → Option Reply
wrong_phase phase history = first_refusal ((not (is_in_phase phase history), why.WrongPhase) ∷ [])

-- Seal, OpenCapture and Rest: from this phase, once no transaction of the class is active
abbrev pub held_back_reply : Setting → Phase → Class → History → Option Reply
held_back_reply st from class history =
    or_else (wrong_phase from history) (or_else (not_yet (active_in_class st class history)) (first_refusal ((log_is_full history, why.LogFull) ∷ [])))

-- the causes of two files' join
abbrev pub join_causes : Option File → Option File → List (Bool × Refusal)
join_causes (Some a) (Some b) =
    (not (a.run == b.run), why.OtherRun) ∷ (conflict a.triples b.triples, why.Conflict) ∷ (nat_lt MOST_FILE_ENTRIES (map_of.len (joined_file a b).triples), why.Full) ∷ []
join_causes a b = []

-- the refusal of a join: NoFile and ShelfFull first
abbrev pub join_refusal : List File → Option File → Option File → Option Reply
join_refusal shelf a b =
    first_refusal ((is_none a || is_none b, why.NoFile) ∷ (length shelf == MOST_FILES, why.ShelfFull) ∷ join_causes a b)

-- The reply that is certain whether or not allocations succeed: the first refusal whose cause applies, or NotYet, NoneLeft or
-- Aborted.
abbrev pub certain : Setting → History → Event → Option Reply
certain st history (asked.Begin s) =
    first_refusal ((no_session st s, why.NoSession) ∷ (is_open s history, why.AlreadyBegun) ∷ (begun history == MOST_TRANSACTIONS, why.LogFull) ∷ [])
certain st history (asked.Get s key) = first_refusal (transaction_causes st s history ++ (is_full st key history, why.Full) ∷ [])
certain st history (asked.Put s key value) = first_refusal (write_causes st s key history)
certain st history (asked.Del s key) = first_refusal (write_causes st s key history)
certain st history (asked.Add s key delta) = first_refusal (write_causes st s key history ++ add_causes st s key delta history)
certain st history (asked.Commit s) = first_refusal (transaction_causes st s history ++ (log_is_full history, why.LogFull) ∷ [])
certain st history (asked.Abort s) =
    or_else (first_refusal ((no_session st s, why.NoSession) ∷ (not (is_open s history), why.NoTransaction) ∷ [])) (Some told.Aborted)
certain st history asked.StartPoint =
    or_else (wrong_phase phase.Rest history) (first_refusal ((point_of history == MOST_POINTS, why.PointsFull) ∷ (log_is_full history, why.LogFull) ∷ []))
certain st history asked.Seal = held_back_reply st phase.Prepare Before history
certain st history asked.OpenCapture = held_back_reply st phase.Resolve During history
certain st history asked.Take = or_else (wrong_phase phase.Capture history) (if is_empty (closed_set history) then Some told.NoneLeft else None)
certain st history asked.Done =
    or_else (wrong_phase phase.Capture history) (or_else (not_yet (length (closed_set history)))
    (first_refusal ((length (shelf st.run history) == MOST_FILES, why.ShelfFull) ∷ (log_is_full history, why.LogFull) ∷ [])))
certain st history asked.Rest = held_back_reply st phase.Complete After history
certain st history (asked.Join a b) = join_refusal (shelf st.run history) (file_at (shelf st.run history) a) (file_at (shelf st.run history) b)

-- the reply to a read that gives this
abbrev pub read_reply : Option (List ℕ) → Reply
read_reply None = told.Absent
read_reply (Some value) = told.Found value

-- the sum that an add gives; where its request is granted and no refusal is certain there is one
abbrev pub sum_or_zero : Option ℤ → ℤ
sum_or_zero None = pos 0
sum_or_zero (Some sum) = sum

-- the reply by the outcome of the request: this one if it is granted
abbrev pub by_outcome : Outcome → Reply → Reply
by_outcome Granted reply = reply
by_outcome Queued reply = told.Wait
by_outcome Died reply = told.Died

-- a Take of the first key, with any content
abbrev pub TakesFirst : List (List ℕ) → Reply → Type 0
TakesFirst [] reply = ⊥
TakesFirst (key ∷ keys) reply = (content : Option (List ℕ)) × (reply ≡ told.Took key content)

-- the reply of a Join that shelves this file under this number
abbrev pub IsFileReply : List File → ℕ → Reply → Type 0
IsFileReply [] number reply = ⊥
IsFileReply (f ∷ fs) number reply = reply ≡ told.File number (set.items f.points) (map_of.len f.triples)

-- The reply if none is certain and no allocation fails. What a Take carries is left open.
abbrev pub Answers : Setting → History → Event → Reply → Type 0
Answers st history (asked.Begin s) reply = reply ≡ told.Begun (begun history + 1)
Answers st history (asked.Get s key) reply =
    reply ≡ by_outcome (outcome (queue_of key history) (transaction_number_of s history) Shared) (read_reply (seen_by st s key history))
Answers st history (asked.Put s key value) reply = reply ≡ by_outcome (outcome (queue_of key history) (transaction_number_of s history) Exclusive) told.Ok
Answers st history (asked.Del s key) reply = reply ≡ by_outcome (outcome (queue_of key history) (transaction_number_of s history) Exclusive) told.Ok
Answers st history (asked.Add s key delta) reply =
    reply ≡ by_outcome (outcome (queue_of key history) (transaction_number_of s history) Exclusive) (told.Sum (sum_or_zero (added delta (seen_by st s key history))))
Answers st history (asked.Commit s) reply = reply ≡ told.Committed (length (log_of history) + 1)
Answers st history (asked.Abort s) reply = ⊥
Answers st history asked.StartPoint reply = reply ≡ told.Phase phase.Prepare (point_of history + 1)
Answers st history asked.Seal reply = reply ≡ told.Phase phase.Resolve (point_of history)
Answers st history asked.OpenCapture reply = reply ≡ told.Phase phase.Capture (point_of history)
Answers st history asked.Take reply = TakesFirst (closed_set history) reply
Answers st history asked.Done reply = reply ≡ told.PartDone (point_of history) (length (shelf st.run history) + 1) (length (taken history))
Answers st history asked.Rest reply = reply ≡ told.Phase phase.Rest (point_of history)
Answers st history (asked.Join a b) reply =
    IsFileReply (join_of (file_at (shelf st.run history) a) (file_at (shelf st.run history) b)) (length (shelf st.run history) + 1) reply

-- The reply is legal: the certain one, or else the answer, or that an allocation failed.
abbrev pub IsLegal : Setting → History → Event → Reply → Type 0
IsLegal st history event reply =
    MatchOption (certain st history event) (Answers st history event reply ⊎ (reply ≡ told.Refused why.OutOfMemory)) (λ due. reply ≡ due)

-- each reply of the history was legal when it was given
abbrev pub IsLegalHistory : Setting → History → Type 0
IsLegalHistory st [] = ⊤
IsLegalHistory st (step ∷ history) = IsLegal st history step.event step.reply × IsLegalHistory st history
