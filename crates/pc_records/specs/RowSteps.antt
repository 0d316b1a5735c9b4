-- The effect of each call on the rows, and the questions about them.
use Rattle.std.specs.Prelude.{ℕ, ◌==◌, ◌&&◌, not, Bool, true, false, List, [], ◌∷◌, length, filter, Option, Some, None, is_none, if◌then◌else◌}
use Rattle.std.specs.List.{list_any}
use Rattle.std.specs.FinMap.{put as put_entry}
use Rattle.pc_types.specs.declared.Mode.{Mode}
use Rattle.pc_types.specs.declared.Refusal.{Refusal}
use Rattle.pc_types.specs.declared.Refusal.TheVariants.{Full, OutOfMemory}
use Rattle.pc_model.specs.Database.{key_cmp, same_bytes}
use Rattle.pc_types.specs.declared.Outcome.{Outcome}
use Rattle.pc_model.specs.Locks.{Queue, request_in, is_ungranted, outcome, queue_after, queue_without}
use Rattle.pc_types.specs.declared.Outcome.TheVariants.{Granted, Queued, Died}
use Rattle.pc_model.specs.Queues.{stands_in}
use Rattle.pc_records.specs.Rows.{Kept, Record, Row, is_kept, record_of, requests_on}

-- the same record, or none if nothing keeps it
abbrev pub if_kept : Record → Option Record
if_kept r = if is_kept r then Some r else None

-- the rows with this one before them, if there is a record
abbrev pub with_row : Option Record → List ℕ → List Row → List Row
with_row None key rows = rows
with_row (Some r) key rows = (key, r) ∷ rows

-- a row that keeps a committed value alone
abbrev pub committed_row : List ℕ × List ℕ → Row
committed_row pair = (pair.0, record { value = Some pair.1; is_in_open_set = false; is_in_closed_set = false; pinned = None; requests = [] })

-- the key has no record, and there are as many as there may be
abbrev pub is_full_for : Kept → List ℕ → Bool
is_full_for kept key = is_none (record_of kept.rows key) && (length kept.rows == kept.capacity)

-- why a request of the key is refused that isn't answered: it has no record and can't get one, or an allocation failed
abbrev pub why_refused : Kept → List ℕ → Refusal
why_refused kept key = if is_full_for kept key then Full else OutOfMemory

-- how the transaction's request of the key is answered
abbrev pub outcome_on : List Row → List ℕ → ℕ → Mode → Outcome
outcome_on rows key t mode = outcome (requests_on (record_of rows key)) t mode

-- a request of the transaction waits
abbrev pub is_waiting_in_rows : List Row → ℕ → Bool
is_waiting_in_rows rows t = list_any (λ (row : Row). is_ungranted (request_in row.1.requests t)) rows

-- a key's record with these requests
abbrev pub with_requests : Option Record → Queue → Record
with_requests None queue = record { value = None; is_in_open_set = false; is_in_closed_set = false; pinned = None; requests = queue }
with_requests (Some r) queue = record r { requests = queue }

-- the rows once the transaction's request of the key was answered; one that dies leaves nothing
abbrev pub rows_after : List Row → List ℕ → ℕ → Mode → Outcome → List Row
rows_after rows key t mode Granted = put_entry key_cmp key (with_requests (record_of rows key) (queue_after (requests_on (record_of rows key)) t mode Granted)) rows
rows_after rows key t mode Queued = put_entry key_cmp key (with_requests (record_of rows key) (queue_after (requests_on (record_of rows key)) t mode Queued)) rows
rows_after rows key t mode Died = rows

-- the record once the transaction's request is removed, if it has one, or none if nothing keeps the record then
abbrev pub released : ℕ → Record → Option Record
released t r = if stands_in r.requests t then if_kept (record r { requests = queue_without r.requests t }) else Some r

-- the rows once all requests of the transaction are removed
abbrev pub released_rows : ℕ → List Row → List Row
released_rows t [] = []
released_rows t (row ∷ rows) = with_row (released t row.1) row.0 (released_rows t rows)

-- a record once this is committed of its key, if anything is
abbrev pub committed_record : Option (Option (List ℕ)) → Record → Record
committed_record None r = r
committed_record (Some value) r = record r { value = value; is_in_open_set = true }

-- the row once this is committed of each key, if anything is
abbrev pub written_row : (List ℕ → Option (Option (List ℕ))) → Row → Row
written_row committed row = (row.0, committed_record (committed row.0) row.1)

-- the row once the open set is closed
abbrev pub closed_row : Row → Row
closed_row row = (row.0, record row.1 { is_in_open_set = false; is_in_closed_set = row.1.is_in_open_set; pinned = if row.1.is_in_open_set then row.1.value else None })

-- the record of the key once the key is taken, or none if nothing keeps it
abbrev pub record_after_take : Option Record → Option Record
record_after_take None = None
record_after_take (Some r) = if_kept (record r { is_in_closed_set = false; pinned = None })

-- the rows with this record of the key, or without the key
abbrev pub with_left : Option Record → List ℕ → List Row → List Row
with_left None key rows = filter (λ row. not (same_bytes key row.0)) rows
with_left (Some r) key rows = put_entry key_cmp key r rows

-- the rows once the key is taken
abbrev pub left_rows : List Row → List ℕ → List Row
left_rows rows key = with_left (record_after_take (record_of rows key)) key rows
