-- The effects on the sessions' open transactions.
use Rattle.std.specs.Prelude.{ℕ, ◌-◌, ◌≤◌, Bool, true, false, List, [], map, filter, length, Option, Some, None, slice_index_or, slice_set, option_map}
use Rattle.pc_types.specs.declared.Write.{Write}
use Rattle.pc_types.specs.Changes.{changed_content}
use Rattle.pc_model.specs.Database.{with_write, written, seen}
use Rattle.pc_types.specs.declared.Outcome.{Outcome}
use Rattle.pc_types.specs.declared.Outcome.TheVariants.{Granted, Queued, Died}
use Rattle.pc_types.specs.declared.Class.{Class}
use Rattle.pc_types.specs.declared.Class.TheVariants.{After}
use Rattle.pc_types.specs.Phases.{same_class}
use Rattle.pc_types.specs.declared.limits.TheConstants.{MOST_WRITES}
use Rattle.pc_transactions.specs.declared.lanes.Transaction.{Transaction}
use Rattle.pc_records.specs.Rows.{Row, record_of, stored}
use Rattle.pc_records.specs.RowSteps.{is_waiting_in_rows}
use Rattle.pc_transactions.specs.Actives.{Active}

-- what a session's lane is seen as: its open transaction, if there is one, and how many more writes there is room for
pub record LaneView : Type 0 where
  pub own : Option Active
  pub room : ℕ

-- the transaction with these writes
abbrev pub with_writes : List Write → Transaction → Active
with_writes writes t = record { number = t.number; class = t.class; has_died = t.has_died; writes = writes }

-- the open transactions of the lanes
abbrev pub actives_of : List LaneView → List (Option Active)
actives_of lanes = map (λ lane. lane.own) lanes

-- the sessions, if this one has this transaction, or none
abbrev pub with_session : List (Option Active) → ℕ → Option Active → List (Option Active)
with_session sessions s transaction = slice_set sessions (s - 1) transaction

-- its number
abbrev pub number_in : Option Active → ℕ
number_in None = 0
number_in (Some t) = t.number

-- whether it waits for a lock, as these rows say
abbrev pub waits_in : List Row → Option Active → Bool
waits_in rows None = false
waits_in rows (Some t) = is_waiting_in_rows rows t.number

-- its class
abbrev pub class_at : Option Active → Class
class_at None = After
class_at (Some t) = t.class

-- whether a request of it has died
abbrev pub has_died_in : Option Active → Bool
has_died_in None = false
has_died_in (Some t) = t.has_died

-- there is one, and it is of the class
abbrev pub is_of_class : Class → Option Active → Bool
is_of_class class None = false
is_of_class class (Some t) = same_class t.class class

-- how many open transactions are of the class
abbrev pub class_count : Class → List (Option Active) → ℕ
class_count class sessions = length (filter (is_of_class class) sessions)

-- its writes
abbrev pub writes_in : Option Active → List Write
writes_in None = []
writes_in (Some t) = t.writes

-- what the writes leave of a key, if they are of it, if these rows say what is committed
abbrev pub left_by : List Write → List Row → List ℕ → Option (Option (List ℕ))
left_by writes rows key = option_map (λ change. changed_content change (stored (record_of rows key))) (written writes key)

-- what the transaction sees of a key: what its own writes leave of it, or else what these rows say is committed
abbrev pub seen_in : List Row → Option Active → List ℕ → Option (List ℕ)
seen_in rows t key = seen (written (writes_in t) key) (stored (record_of rows key))

-- the transaction once it has written this too
abbrev pub after_writing : Option Active → Write → Option Active
after_writing None write = None
after_writing (Some t) write = Some (record t { writes = with_write t.writes write })

-- the transaction once a request of it has died
abbrev pub after_dying : Option Active → Option Active
after_dying None = None
after_dying (Some t) = Some (record t { has_died = true })

-- the first if the request died, and otherwise the second
abbrev pub if_died : {X : Type 0} → Outcome → X → X → X
if_died Granted a b = b
if_died Queued a b = b
if_died Died a b = a

-- the first if the request is granted, and otherwise the second
abbrev pub if_granted : {X : Type 0} → Outcome → X → X → X
if_granted Granted a b = a
if_granted Queued a b = b
if_granted Died a b = b

-- no transaction has written more than 256 keys
abbrev pub AreFew : List (Option Active) → Type 0
AreFew sessions = (i : ℕ) → length (writes_in (slice_index_or sessions i None)) ≤ MOST_WRITES
