-- Histories, and what is read off them: the log, the commits' writes, the phase and the point, the transactions and
-- their classes. Nothing else is known of a run: what the store may answer is said of its history alone.
use Rattle.std.specs.Prelude.{ℕ, ◌+◌, ◌==◌, Bool, true, false, List, [], ◌∷◌, ◌++◌, Option, Some, None, if◌then◌else◌, ℤ}
use Rattle.pc_types.specs.declared.Change.TheVariants.{Add}
use Rattle.pc_types.specs.declared.Class.{Class}
use Rattle.pc_types.specs.declared.Class.TheVariants.{Before, During, After}
use Rattle.pc_types.specs.declared.Mode.{Mode}
use Rattle.pc_types.specs.declared.Mode.TheVariants.{Shared, Exclusive}
use Rattle.pc_types.specs.declared.Write.{Write}
use Rattle.pc_types.specs.declared.Phase.{Phase}
use Rattle.pc_types.specs.declared.Phase.TheVariants.{Rest, Prepare, Resolve, Capture, Complete}
use Rattle.pc_types.specs.declared.Entry.{Entry}
use Rattle.pc_types.specs.declared.Entry.TheVariants.{Commit, Token}
use Rattle.pc_types.specs.declared.Event.{Event}
use Rattle.pc_types.specs.declared.Event.TheVariants as asked
use Rattle.pc_types.specs.declared.Reply.{Reply}
use Rattle.pc_types.specs.declared.Reply.TheVariants as told
use Rattle.pc_types.specs.declared.Step.{Step}
use Rattle.pc_types.specs.Changes.{change_to}
use Rattle.pc_model.specs.Database.{Database, write_of, with_write}
use Rattle.pc_model.specs.Log.{after}

-- a history: the steps of a run so far, each an event with its reply, the last one first
abbrev pub History : Type 0
History = List Step

-- The effect of a step, by its event and its reply. A refusal, NotYet and NoneLeft have none.
pub data Effect : Type 0 where
  -- the session begins a transaction
  Begins : ℕ → Effect
  -- the session reads the key, and gets this reply
  Reads : ℕ → List ℕ → Option (List ℕ) → Effect
  -- the session sets or removes the key
  Writes : ℕ → List ℕ → Option (List ℕ) → Effect
  -- the session adds to the number that the key has, and the sum is this
  Adds : ℕ → List ℕ → ℤ → ℤ → Effect
  -- the session's request of the key waits, or its transaction dies of it; the request is of this mode
  Waits : ℕ → List ℕ → Mode → Effect
  Dies : ℕ → List ℕ → Mode → Effect
  -- the session's transaction ends
  Commits : ℕ → Effect
  Aborts : ℕ → Effect
  -- the phase changes, at this point
  Moves : Phase → ℕ → Effect
  -- the key is taken with this content
  Takes : List ℕ → Option (List ℕ) → Effect
  -- the part of the point is shelved, and the phase is complete
  Shelves : ℕ → Effect
  -- the join of two shelved files is shelved
  Joins : ℕ → ℕ → Effect
  Nothing : Effect

-- the effect of a begin, by its reply
abbrev pub effect_of_begin : ℕ → Reply → Effect
effect_of_begin s (told.Begun t) = Begins s
effect_of_begin s other = Nothing

-- that of a read
abbrev pub effect_of_get : ℕ → List ℕ → Reply → Effect
effect_of_get s key (told.Found value) = Reads s key (Some value)
effect_of_get s key told.Absent = Reads s key None
effect_of_get s key told.Wait = Waits s key Shared
effect_of_get s key told.Died = Dies s key Shared
effect_of_get s key other = Nothing

-- that of a put or a removal
abbrev pub effect_of_write : ℕ → List ℕ → Option (List ℕ) → Reply → Effect
effect_of_write s key value told.Ok = Writes s key value
effect_of_write s key value told.Wait = Waits s key Exclusive
effect_of_write s key value told.Died = Dies s key Exclusive
effect_of_write s key value other = Nothing

-- that of an add
abbrev pub effect_of_add : ℕ → List ℕ → ℤ → Reply → Effect
effect_of_add s key delta (told.Sum sum) = Adds s key delta sum
effect_of_add s key delta told.Wait = Waits s key Exclusive
effect_of_add s key delta told.Died = Dies s key Exclusive
effect_of_add s key delta other = Nothing

-- that of a commit
abbrev pub effect_of_commit : ℕ → Reply → Effect
effect_of_commit s (told.Committed lsn) = Commits s
effect_of_commit s other = Nothing

-- that of an abort
abbrev pub effect_of_abort : ℕ → Reply → Effect
effect_of_abort s told.Aborted = Aborts s
effect_of_abort s other = Nothing

-- that of a change of the phase
abbrev pub effect_of_move : Reply → Effect
effect_of_move (told.Phase phase point) = Moves phase point
effect_of_move other = Nothing

-- that of a take
abbrev pub effect_of_take : Reply → Effect
effect_of_take (told.Took key value) = Takes key value
effect_of_take other = Nothing

-- that of the end of a capture
abbrev pub effect_of_done : Reply → Effect
effect_of_done (told.PartDone point file entries) = Shelves point
effect_of_done other = Nothing

-- that of a join
abbrev pub effect_of_join : ℕ → ℕ → Reply → Effect
effect_of_join a b (told.File file points entries) = Joins a b
effect_of_join a b other = Nothing

-- the effect of an event that was so answered
abbrev pub effect_of : Event → Reply → Effect
effect_of (asked.Begin s) reply = effect_of_begin s reply
effect_of (asked.Get s key) reply = effect_of_get s key reply
effect_of (asked.Put s key value) reply = effect_of_write s key (Some value) reply
effect_of (asked.Del s key) reply = effect_of_write s key None reply
effect_of (asked.Add s key delta) reply = effect_of_add s key delta reply
effect_of (asked.Commit s) reply = effect_of_commit s reply
effect_of (asked.Abort s) reply = effect_of_abort s reply
effect_of asked.StartPoint reply = effect_of_move reply
effect_of asked.Seal reply = effect_of_move reply
effect_of asked.OpenCapture reply = effect_of_move reply
effect_of asked.Take reply = effect_of_take reply
effect_of asked.Done reply = effect_of_done reply
effect_of asked.Rest reply = effect_of_move reply
effect_of (asked.Join a b) reply = effect_of_join a b reply

-- the effect of a step
abbrev pub effect : Step → Effect
effect step = effect_of step.event step.reply

-- whether the session has a transaction open after this effect, given whether it had one before
abbrev pub open_by : ℕ → Effect → Bool → Bool
open_by s (Begins t) was = if t == s then true else was
open_by s (Commits t) was = if t == s then false else was
open_by s (Aborts t) was = if t == s then false else was
open_by s other was = was

-- the session has a transaction open: one that is active
abbrev pub is_open : ℕ → History → Bool
is_open s [] = false
is_open s (step ∷ history) = open_by s (effect step) (is_open s history)

-- the session's writes after this effect, given those before
abbrev pub writes_by : ℕ → Effect → List Write → List Write
writes_by s (Begins t) ws = if t == s then [] else ws
writes_by s (Writes t key value) ws = if t == s then with_write ws (write_of key (change_to value)) else ws
writes_by s (Adds t key delta sum) ws = if t == s then with_write ws (write_of key (Add delta)) else ws
writes_by s other ws = ws

-- the session's writes since its last begin: of each key all its changes as one, the keys as they were first written
abbrev pub writes_of : ℕ → History → List Write
writes_of s [] = []
writes_of s (step ∷ history) = writes_by s (effect step) (writes_of s history)

-- what an effect after this history adds to the log
abbrev pub entries_by : Effect → History → List Entry
entries_by (Commits s) history = Commit s (writes_of s history) ∷ []
entries_by (Moves phase point) history = Token phase point ∷ []
entries_by (Shelves point) history = Token Complete point ∷ []
entries_by other history = []

-- the log: an entry for each commit, and a token for each change of the phase, in order
abbrev pub log_of : History → List Entry
log_of [] = []
log_of (step ∷ history) = log_of history ++ entries_by (effect step) history

-- the committed contents: the base with the log replayed on it
abbrev pub contents : Database → History → Database
contents base history = after base (log_of history)

-- the count of begins after this effect
abbrev pub begun_by : Effect → ℕ → ℕ
begun_by (Begins s) n = n + 1
begun_by other n = n

-- how many transactions were begun
abbrev pub begun : History → ℕ
begun [] = 0
begun (step ∷ history) = begun_by (effect step) (begun history)

-- the number of the session's last transaction after this effect, given how many were begun before
abbrev pub transaction_number_by : ℕ → Effect → ℕ → ℕ → ℕ
transaction_number_by s (Begins t) so_far n = if t == s then so_far + 1 else n
transaction_number_by s other so_far n = n

-- the number of the session's last transaction: each begin takes the next number, the first takes 1
abbrev pub transaction_number_of : ℕ → History → ℕ
transaction_number_of s [] = 0
transaction_number_of s (step ∷ history) = transaction_number_by s (effect step) (begun history) (transaction_number_of s history)

-- the phase after this effect
abbrev pub phase_by : Effect → Phase → Phase
phase_by (Moves phase point) was = phase
phase_by (Shelves point) was = Complete
phase_by other was = was

-- the phase: that of the last token, and rest at first
abbrev pub phase_of : History → Phase
phase_of [] = Rest
phase_of (step ∷ history) = phase_by (effect step) (phase_of history)

-- the point after this effect
abbrev pub point_by : Effect → ℕ → ℕ
point_by (Moves phase point) was = point
point_by (Shelves point) was = point
point_by other was = was

-- the point: that of the last token, and 0 at first
abbrev pub point_of : History → ℕ
point_of [] = 0
point_of (step ∷ history) = point_by (effect step) (point_of history)

-- the class of a transaction that begins in the phase
abbrev pub class_in : Phase → Class
class_in Rest = Before
class_in Prepare = During
class_in Resolve = After
class_in Capture = After
class_in Complete = Before

-- the class of the session's last transaction after this effect, given the phase before
abbrev pub class_by : ℕ → Effect → Phase → Class → Class
class_by s (Begins t) phase was = if t == s then class_in phase else was
class_by s other phase was = was

-- the class of the session's last transaction
abbrev pub class_of : ℕ → History → Class
class_of s [] = Before
class_of s (step ∷ history) = class_by s (effect step) (phase_of history) (class_of s history)

-- whether a request of the session's last transaction has died, after this effect
abbrev pub died_by : ℕ → Effect → Bool → Bool
died_by s (Begins t) was = if t == s then false else was
died_by s (Dies t key mode) was = if t == s then true else was
died_by s other was = was

-- a request of the session's last transaction has died
abbrev pub has_died : ℕ → History → Bool
has_died s [] = false
has_died s (step ∷ history) = died_by s (effect step) (has_died s history)
