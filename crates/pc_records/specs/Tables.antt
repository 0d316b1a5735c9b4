-- The records besides the rows: the writes of open transactions, each in its key's place, the point of the last closed set, and
-- the keys of the two sets in order.
use Rattle.std.specs.Prelude.{◌≡◌, ℕ, List, [], ◌∷◌, Option, Some, None, is_some, option_map, option_copied, if◌then◌else◌, MatchOption}
use Rattle.std.specs.FinMap.{find}
use denote.Ref.{Bor}
use Rattle.pc_types.specs.declared.Write.{Write}
use Rattle.pc_model.specs.Database.{key_cmp, same_bytes, written}
use Rattle.pc_types.specs.declared.Class.{Class}
use Rattle.pc_types.specs.declared.Mode.{Mode}
use Rattle.pc_types.specs.declared.Mode.TheVariants.{Exclusive}
use Rattle.pc_types.specs.declared.Outcome.{Outcome}
use Rattle.pc_types.specs.declared.Outcome.TheVariants.{Granted, Queued, Died}
use Rattle.pc_model.specs.Points.{is_among}
use Rattle.pc_slots.specs.Slots.{Pending}
use Rattle.pc_records.specs.RowSteps.{rows_after}
use Rattle.pc_records.specs.Rows.{Row, Kept, record_of, stored, is_in_open_set, is_in_closed_set, at_point}

-- the records: the rows, the writes of open transactions, ascending by key, the point of the last closed set, and the keys of the
-- open set and of the closed one, each in the order in which they came into it
pub record RecordsView : Type 0 where
  pub capacity : ℕ
  pub rows : List Row
  pub pending : List (List ℕ × Pending)
  pub point : ℕ
  pub opened : List (List ℕ)
  pub shut : List (List ℕ)

-- the rows and their limit alone
abbrev pub kept_of : RecordsView → Kept
kept_of t = record { capacity = t.capacity; rows = t.rows }

-- the write of an open transaction in the key's place
abbrev pub pending_at : RecordsView → List ℕ → Option Pending
pending_at t key = find key_cmp key t.pending

-- the value of a write
abbrev pub pending_value : Pending → Option (List ℕ)
pending_value p = p.value

-- the content of a key's place: what an open transaction wrote last, or else the committed value
abbrev pub read_of : Option Pending → Option (List ℕ) → Option (List ℕ)
read_of None committed = committed
read_of (Some p) committed = p.value

-- the content of the key's place
abbrev pub latest : RecordsView → List ℕ → Option (List ℕ)
latest t key = read_of (pending_at t key) (stored (record_of t.rows key))

-- no other transaction has a write in the key's place
abbrev pub IsClearFor : RecordsView → List ℕ → ℕ → Type 0
IsClearFor t key transaction = MatchOption (pending_at t key) (Unit {0}) (λ p. p.by ≡ transaction)

-- the content of the key's place once this was asked to be written of another one, or of the same
abbrev pub pending_after : Outcome → RecordsView → List ℕ → Pending → List ℕ → Option Pending
pending_after Granted t key p q = if same_bytes key q then Some p else pending_at t q
pending_after Queued t key p q = pending_at t q
pending_after Died t key p q = pending_at t q

-- the transaction's write in the key's place, if it has one there, is of the class
abbrev pub IsOfClass : RecordsView → List ℕ → ℕ → Class → Type 0
IsOfClass t key transaction class = (p : Pending) → pending_at t key ≡ Some p → p.by ≡ transaction → p.class ≡ class

-- the records once the transaction's request of the key was so answered
abbrev pub once_asked : RecordsView → List ℕ → ℕ → Mode → Outcome → RecordsView
once_asked t key transaction mode answer = record t { rows = rows_after t.rows key transaction mode answer }

-- the transaction's request to write the key was so answered: its request is in the rows, and if it is granted the write is in the
-- key's place, in which no other transaction has one
pub record IsWriteRequested (old new : RecordsView) (transaction : ℕ) (class : Class) (key : List ℕ) (value : Option (List ℕ)) (answer : Outcome) : Type 0 where
  pub rows : kept_of new ≡ record (kept_of old) { rows = rows_after old.rows key transaction Exclusive answer }
  pub pending : (q : List ℕ) → pending_at new q ≡ pending_after answer old key (record { by = transaction; class = class; value = value }) q
  pub clear : answer ≡ Granted → IsClearFor old key transaction
  pub point : new.point ≡ old.point
  pub opened : new.opened ≡ old.opened
  pub shut : new.shut ≡ old.shut

-- the content of the key's place once the transaction of these writes is over
abbrev pub pending_without : List Write → RecordsView → List ℕ → Option Pending
pending_without writes t q = if is_some (written writes q) then None else pending_at t q

-- the committed content of a key after a commit of these writes: if they write it, the content of its place
abbrev pub made_committed : List Write → RecordsView → List ℕ → Option (Option (List ℕ))
made_committed writes t q = if is_some (written writes q) then option_map pending_value (pending_at t q) else None

-- each key is listed if and only if it is in the set
pub record AreListed (t : RecordsView) : Type 0 where
  pub open_set : (q : List ℕ) → is_in_open_set (record_of t.rows q) ≡ is_among t.opened q
  pub closed_set : (q : List ℕ) → is_in_closed_set (record_of t.rows q) ≡ is_among t.shut q

-- the first of the keys, with what it has at the point
abbrev pub first_pinned : List Row → List (List ℕ) → Option (List ℕ × Option (List ℕ))
first_pinned rows [] = None
first_pinned rows (key ∷ keys) = Some (key, at_point (record_of rows key))

-- the first key of the closed set, with what it has at the point
abbrev pub first_content : RecordsView → Option (List ℕ × Option (List ℕ))
first_content t = first_pinned t.rows t.shut

-- the key and the content after the references
abbrev pub content_behind : Bor (List ℕ) × Option (Bor (List ℕ)) → List ℕ × Option (List ℕ)
content_behind pair = (pair.0.now, option_copied pair.1)
