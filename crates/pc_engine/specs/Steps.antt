-- The effect of one event on a world.
use Rattle.std.specs.Prelude.{⊤, ◌≡◌, ℕ, ◌+◌, ◌-◌, ◌<◌, ◌==◌, not, Bool, false, List, [], ◌∷◌, ◌++◌, length, map, Option, Some, None, ◌⊎◌, is_some, is_none, ℤ, if◌then◌else◌, MatchOption}
use Rattle.std.specs.FinMap.{put as put_entry}
use Rattle.pc_types.specs.declared.Entry.TheVariants.{Commit, Token}
use Rattle.pc_types.specs.declared.Phase.{Phase}
use Rattle.pc_types.specs.declared.Phase.TheVariants as phase
use Rattle.pc_types.specs.declared.Reply.{Reply}
use Rattle.pc_types.specs.declared.Reply.TheVariants as told
use Rattle.pc_types.specs.declared.Refusal.{Refusal}
use Rattle.pc_types.specs.declared.Refusal.TheVariants as why
use Rattle.pc_types.specs.declared.limits.TheConstants.{MOST_FILES, MOST_LOG_ENTRIES, MOST_POINTS, MOST_TRANSACTIONS}
use Rattle.pc_types.specs.declared.Change.TheVariants.{Add}
use Rattle.pc_types.specs.Changes.{added, change_to}
use Rattle.pc_model.specs.Database.{key_cmp, write_of, written}
use Rattle.pc_model.specs.Sets as set
use Rattle.pc_model.specs.Files.{File, file_at, join_of, triples_taken}
use Rattle.pc_model.specs.Replies.{first_refusal, or_else, not_yet, no_session, read_reply, by_outcome, sum_or_zero, is_empty, join_refusal, IsFileReply}
use Rattle.pc_types.specs.Phases.{same_phase}
use Rattle.pc_types.specs.declared.Mode.{Mode}
use Rattle.pc_types.specs.declared.Mode.TheVariants.{Shared, Exclusive}
use Rattle.pc_types.specs.declared.Outcome.{Outcome}
use Rattle.pc_model.specs.Locks.{outcome}
use Rattle.pc_model.specs.History.{class_in}
use Rattle.pc_types.specs.declared.Class.{Class}
use Rattle.pc_types.specs.declared.Class.TheVariants.{Before, During, After}
use Rattle.pc_phase.specs.declared.change.Change.{Change}
use Rattle.pc_phase.specs.declared.change.Change.TheVariants as change
use Rattle.pc_records.specs.Rows.{record_of, at_point, requests_on}
use Rattle.pc_records.specs.RowSteps.{is_full_for, is_waiting_in_rows, rows_after, released_rows, written_row, closed_row, left_rows}
use Rattle.pc_records.specs.NewKeys.{new_keys, is_one_too_many}
use Rattle.pc_transactions.specs.Adds.{sum_causes}
use Rattle.pc_engine.specs.Store.{Store, setting_of, active}
use Rattle.pc_transactions.specs.Actives.{Active}
use Rattle.pc_transactions.specs.Sessions.{with_session, number_in, has_died_in, writes_in, left_by, seen_in, class_count, after_writing, after_dying, if_died, if_granted}

-- A certain reply is given and changes nothing; if no reply is certain this is done, or an allocation failed and nothing
-- changed.
abbrev pub Owes : Option Reply → Store → Reply → Store → Type 0 → Type 0
Owes None old reply new Done = Done ⊎ ((reply ≡ told.Refused why.OutOfMemory) × (new ≡ old))
Owes (Some due) old reply new Done = (reply ≡ due) × (new ≡ old)

-- the phase is this one
abbrev pub store_in_phase : Phase → Store → Bool
store_in_phase phase w = same_phase w.cycle.phase phase

-- the log has as many entries as it may
abbrev pub is_log_full : Store → Bool
is_log_full w = length w.log == MOST_LOG_ENTRIES

-- the causes of an open transaction's refusals, before these
abbrev pub open_causes : Store → ℕ → List (Bool × Refusal) → List (Bool × Refusal)
open_causes w s causes =
    (no_session (setting_of w) s, why.NoSession) ∷ (is_none (active w s), why.NoTransaction) ∷ (is_waiting_in_rows w.kept.rows (number_in (active w s)), why.StillWaiting) ∷ (has_died_in (active w s), why.MustAbort) ∷ causes

-- the session has a transaction open, which may go on: none of its requests waits or has died
pub record MayGoOn (w : Store) (s : ℕ) : Type 0 where
  pub known : no_session (setting_of w) s ≡ false
  pub in_range : s - 1 < length w.sessions
  pub opened : is_none (active w s) ≡ false
  pub ready : is_waiting_in_rows w.kept.rows (number_in (active w s)) ≡ false
  pub alive : has_died_in (active w s) ≡ false

-- the first of those causes that applies, or none does
abbrev pub OpenCause : Store → ℕ → Option Refusal → Type 0
OpenCause w s None = MayGoOn w s
OpenCause w s (Some r) = (causes : List (Bool × Refusal)) → first_refusal (open_causes w s causes) ≡ Some (told.Refused r)

-- the causes of a begin's refusals
abbrev pub begin_causes : Store → ℕ → List (Bool × Refusal)
begin_causes w s = (no_session (setting_of w) s, why.NoSession) ∷ (is_some (active w s), why.AlreadyBegun) ∷ (w.begun == MOST_TRANSACTIONS, why.LogFull) ∷ []

-- a transaction begins, of the class of the phase, and has written nothing
abbrev pub Begins : Store → ℕ → Reply → Store → Type 0
Begins old s reply new =
    Owes (first_refusal (begin_causes old s)) old reply new
    ((reply ≡ told.Begun (old.begun + 1)) × (new ≡ record old { begun = old.begun + 1; sessions = with_session old.sessions s (Some (record { number = old.begun + 1; class = class_in old.cycle.phase; has_died = false; writes = [] })) }))

-- the world once the request of the session's transaction is answered, if it dies or leaves these sessions
abbrev pub after_asking : Store → ℕ → List ℕ → Mode → Outcome → List (Option Active) → Store
after_asking w s key mode o sessions = record w { kept = record w.kept { rows = rows_after w.kept.rows key (number_in (active w s)) mode o }; sessions = if_died o (with_session w.sessions s (after_dying (active w s))) sessions }

-- how the request of the session's transaction is answered
abbrev pub outcome_in : Store → ℕ → List ℕ → Mode → Outcome
outcome_in w s key mode = outcome (requests_on (record_of w.kept.rows key)) (number_in (active w s)) mode

-- what the transaction sees of the key is read, if the request is granted
abbrev pub Gets : Store → ℕ → List ℕ → Reply → Store → Type 0
Gets old s key reply new =
    Owes (first_refusal (open_causes old s ((is_full_for old.kept key, why.Full) ∷ []))) old reply new
    ((reply ≡ by_outcome (outcome_in old s key Shared) (read_reply (seen_in old.kept.rows (active old s) key)))
    × (new ≡ after_asking old s key Shared (outcome_in old s key Shared) old.sessions))

-- the causes of a write's refusals
abbrev pub write_refusal_causes : Store → ℕ → List ℕ → List (Bool × Refusal)
write_refusal_causes w s key = open_causes w s ((is_one_too_many (writes_in (active w s)) key, why.TooManyWrites) ∷ (is_full_for w.kept key, why.Full) ∷ [])

-- the first of them that applies, or none does but perhaps the last
abbrev pub WriteCause : Store → ℕ → List ℕ → Option Refusal → Type 0
WriteCause w s key None = MayGoOn w s × (is_one_too_many (writes_in (active w s)) key ≡ false)
WriteCause w s key (Some r) = first_refusal (write_refusal_causes w s key) ≡ Some (told.Refused r)

-- the key is set to the content or removed by the transaction, if the request is granted
abbrev pub WritesKey : Store → ℕ → List ℕ → Option (List ℕ) → Reply → Store → Type 0
WritesKey old s key content reply new =
    Owes (first_refusal (write_refusal_causes old s key)) old reply new
    ((reply ≡ by_outcome (outcome_in old s key Exclusive) told.Ok)
    × (new ≡ after_asking old s key Exclusive (outcome_in old s key Exclusive) (if_granted (outcome_in old s key Exclusive) (with_session old.sessions s (after_writing (active old s) (write_of key (change_to content)))) old.sessions)))

-- the causes of an add's refusals
abbrev pub adding_causes : Store → ℕ → List ℕ → ℤ → List (Bool × Refusal)
adding_causes w s key delta =
    write_refusal_causes w s key ++ sum_causes (outcome_in w s key Exclusive) (seen_in w.kept.rows (active w s) key) (written (writes_in (active w s)) key) delta

-- the transaction adds to the number that it sees of the key, if the request is granted
abbrev pub AddsTo : Store → ℕ → List ℕ → ℤ → Reply → Store → Type 0
AddsTo old s key delta reply new =
    Owes (first_refusal (adding_causes old s key delta)) old reply new
    ((reply ≡ by_outcome (outcome_in old s key Exclusive) (told.Sum (sum_or_zero (added delta (seen_in old.kept.rows (active old s) key)))))
    × (new ≡ after_asking old s key Exclusive (outcome_in old s key Exclusive) (if_granted (outcome_in old s key Exclusive) (with_session old.sessions s (after_writing (active old s) (write_of key (Add delta)))) old.sessions)))

-- the writes are logged and committed, and the transaction is over: none of its requests is left
abbrev pub Commits : Store → ℕ → Reply → Store → Type 0
Commits old s reply new =
    Owes (first_refusal (open_causes old s ((is_log_full old, why.LogFull) ∷ []))) old reply new
    ((reply ≡ told.Committed (length old.log + 1))
    × (new ≡ record old {
      kept = record old.kept { rows = released_rows (number_in (active old s)) (map (written_row (left_by (writes_in (active old s)) old.kept.rows)) old.kept.rows) };
      log = old.log ++ Commit s (writes_in (active old s)) ∷ [];
      sessions = with_session old.sessions s None;
      cycle = record old.cycle { open_set = old.cycle.open_set ++ new_keys old.kept.rows (writes_in (active old s)) };
    }))

-- the causes of an abort's refusals
abbrev pub abort_causes : Store → ℕ → List (Bool × Refusal)
abort_causes w s = (no_session (setting_of w) s, why.NoSession) ∷ (is_none (active w s), why.NoTransaction) ∷ []

-- The transaction is over, and none of its requests is left; whether or not allocations succeed.
abbrev pub Aborts : Store → ℕ → Reply → Store → Type 0
Aborts old s reply new =
    MatchOption (first_refusal (abort_causes old s))
    ((reply ≡ told.Aborted)
    × (new ≡ record old { kept = record old.kept { rows = released_rows (number_in (active old s)) old.kept.rows }; sessions = with_session old.sessions s None }))
    (λ due. (reply ≡ due) × (new ≡ old))

-- the world once the phase has changed, in the cycle of the point: the log has the token
abbrev pub after_moving : Phase → ℕ → Store → Store
after_moving phase point w = record w { log = w.log ++ Token phase point ∷ []; cycle = record w.cycle { phase = phase; point = point } }

-- the causes of the refusals of a start of a cycle
abbrev pub start_causes : Store → List (Bool × Refusal)
start_causes w = (not (store_in_phase phase.Rest w), why.WrongPhase) ∷ (w.cycle.point == MOST_POINTS, why.PointsFull) ∷ (is_log_full w, why.LogFull) ∷ []

-- the cycle of the next point starts
abbrev pub StartsPoint : Store → Reply → Store → Type 0
StartsPoint old reply new =
    Owes (first_refusal (start_causes old)) old reply new ((reply ≡ told.Phase phase.Prepare (old.cycle.point + 1)) × (new ≡ after_moving phase.Prepare (old.cycle.point + 1) old))

-- what is answered if the phase is not changed: it is another one, transactions of this class are open, or the log is full
abbrev pub move_due : Phase → Class → Store → Option Reply
move_due from class w =
    or_else (first_refusal ((not (store_in_phase from w), why.WrongPhase) ∷ [])) (or_else (not_yet (class_count class w.sessions)) (first_refusal ((is_log_full w, why.LogFull) ∷ [])))

-- the phase changes from one to another, once no transaction of the class is open
abbrev pub Moves : Phase → Class → Phase → Store → Reply → Store → Type 0
Moves from class to old reply new = Owes (move_due from class old) old reply new ((reply ≡ told.Phase to old.cycle.point) × (new ≡ after_moving to old.cycle.point old))

-- the point of consistency: the open set is closed, and another one begins
abbrev pub after_sealing : Store → Store
after_sealing w = record w { kept = record w.kept { rows = map closed_row w.kept.rows }; cycle = record w.cycle { open_set = []; closed_set = w.cycle.open_set; taken = [] } }

-- the phase changes to resolve
abbrev pub Seals : Store → Reply → Store → Type 0
Seals old reply new =
    Owes (move_due phase.Prepare Before old) old reply new ((reply ≡ told.Phase phase.Resolve old.cycle.point) × (new ≡ after_sealing (after_moving phase.Resolve old.cycle.point old)))

-- a change at which no part is shelved
abbrev pub LeavesShelf : Change → Type 0
LeavesShelf change.Done = ⊥
LeavesShelf other = ⊤

-- what each change does at which no part is shelved
abbrev pub Changes : Change → Store → Reply → Store → Type 0
Changes change.StartPoint old reply new = StartsPoint old reply new
Changes change.Seal old reply new = Seals old reply new
Changes change.OpenCapture old reply new = Moves phase.Resolve During phase.Capture old reply new
Changes change.Done old reply new = ⊥
Changes change.Rest old reply new = Moves phase.Complete After phase.Rest old reply new

-- what is answered to a Take if no key is taken
abbrev pub take_due : Store → Option Reply
take_due w = or_else (first_refusal ((not (store_in_phase phase.Capture w), why.WrongPhase) ∷ [])) (if is_empty w.cycle.closed_set then Some told.NoneLeft else None)

-- the first of these keys is taken with what it has at the point, and is at its place among those that were taken
abbrev pub TakesFirstKey : List (List ℕ) → Store → Reply → Store → Type 0
TakesFirstKey [] old reply new = ⊥
TakesFirstKey (key ∷ keys) old reply new =
    let content = at_point (record_of old.kept.rows key) in
    (reply ≡ told.Took key content)
    × (new ≡ record old { kept = record old.kept { rows = left_rows old.kept.rows key }; cycle = record old.cycle { closed_set = keys; taken = put_entry key_cmp key content old.cycle.taken } })

-- a key of the closed set is taken
abbrev pub Takes : Store → Reply → Store → Type 0
Takes old reply new = Owes (take_due old) old reply new (TakesFirstKey old.cycle.closed_set old reply new)

-- what is answered to a Done if no part is shelved
abbrev pub done_due : Store → Option Reply
done_due w =
    or_else (first_refusal ((not (store_in_phase phase.Capture w), why.WrongPhase) ∷ [])) (or_else (not_yet (length w.cycle.closed_set))
    (first_refusal ((length w.shelf == MOST_FILES, why.ShelfFull) ∷ (is_log_full w, why.LogFull) ∷ [])))

-- the part of the point, of what was taken
abbrev pub part_taken : Store → File
part_taken w = record { run = w.base.run; points = set.insert set.empty w.cycle.point; triples = triples_taken w.cycle.point w.cycle.taken }

-- the point's part is shelved, and the phase changes to complete
abbrev pub Shelves : Store → Reply → Store → Type 0
Shelves old reply new =
    Owes (done_due old) old reply new
    ((reply ≡ told.PartDone old.cycle.point (length old.shelf + 1) (length old.cycle.taken))
    × (new ≡ record old { log = old.log ++ Token phase.Complete old.cycle.point ∷ []; cycle = record old.cycle { phase = phase.Complete; taken = [] }; shelf = old.shelf ++ part_taken old ∷ [] }))

-- the join of two shelved files is shelved
abbrev pub Joins : Store → ℕ → ℕ → Reply → Store → Type 0
Joins old a b reply new =
    let first = file_at old.shelf a in
    let second = file_at old.shelf b in
    Owes (join_refusal old.shelf first second) old reply new (IsFileReply (join_of first second) (length old.shelf + 1) reply × (new ≡ record old { shelf = old.shelf ++ join_of first second }))
