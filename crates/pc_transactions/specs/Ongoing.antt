-- The view of the sessions, with the records and the phases below their open transactions, and the effect of each call on it.
use Rattle.std.specs.Prelude.{ℕ, ◌+◌, List, [], ◌++◌, map, replicate, Option, Some, None, false}
use Rattle.pc_types.specs.declared.Class.{Class}
use Rattle.pc_types.specs.declared.Mode.{Mode}
use Rattle.pc_types.specs.declared.Outcome.{Outcome}
use Rattle.pc_types.specs.declared.Phase.TheVariants.{Rest}
use Rattle.pc_model.specs.History.{class_in}
use Rattle.pc_model.specs.Locks.{outcome}
use Rattle.pc_phase.specs.declared.change.Change.{Change}
use Rattle.pc_phase.specs.declared.change.Change.TheVariants as change
use Rattle.pc_phase.specs.Phases.{Phases, entered, left, advanced}
use Rattle.pc_records.specs.Rows.{Row, Kept, record_of, requests_on}
use Rattle.pc_records.specs.RowSteps.{committed_row, rows_after, released_rows, written_row, closed_row, left_rows}
use Rattle.pc_records.specs.NewKeys.{new_keys}
use Rattle.pc_transactions.specs.Sessions.{with_session, number_in, class_at, writes_in, left_by, after_dying, if_died}
use Rattle.pc_transactions.specs.Actives.{Active, active_in}

-- the sessions with their open transactions; the records, and the keys of their open and their closed set in order; the phases,
-- which count the transactions; and how many were begun
pub record Ongoing : Type 0 where
  pub sessions : List (Option Active)
  pub kept : Kept
  pub open_set : List (List ℕ)
  pub closed_set : List (List ℕ)
  pub phases : Phases
  pub begun : ℕ

-- the session's open transaction
abbrev pub own_transaction : Ongoing → ℕ → Option Active
own_transaction o s = active_in o.sessions s

-- that many idle sessions, over the records of these pairs
abbrev pub at_start : ℕ → ℕ → List (List ℕ × List ℕ) → Ongoing
at_start count capacity pairs = record {
  sessions = replicate count None;
  kept = record { capacity = capacity; rows = map committed_row pairs };
  open_set = [];
  closed_set = [];
  phases = record { phase = Rest; point = 0; before = 0; during = 0; after = 0 };
  begun = 0;
}

-- these rows in place of the others
abbrev pub with_rows : List Row → Kept → Kept
with_rows rows kept = record kept { rows = rows }

-- once a transaction has begun in the session
abbrev pub after_beginning : Ongoing → ℕ → Ongoing
after_beginning o s =
    let class : Class = class_in o.phases.phase in
    let transaction : Active = record { number = o.begun + 1; class = class; has_died = false; writes = [] } in
    record o { sessions = with_session o.sessions s (Some transaction); phases = entered o.phases class; begun = o.begun + 1 }

-- how the request of the session's transaction is answered
abbrev pub request_outcome : Ongoing → ℕ → List ℕ → Mode → Outcome
request_outcome o s key mode = outcome (requests_on (record_of o.kept.rows key)) (number_in (own_transaction o s)) mode

-- once it was answered so, if it dies or leaves these sessions
abbrev pub after_answer : Ongoing → ℕ → List ℕ → Mode → Outcome → List (Option Active) → Ongoing
after_answer o s key mode answer sessions =
    record o { kept = with_rows (rows_after o.kept.rows key (number_in (own_transaction o s)) mode answer) o.kept; sessions = if_died answer (with_session o.sessions s (after_dying (own_transaction o s))) sessions }

-- once the session's transaction is over, with these rows
abbrev pub after_ending : Ongoing → ℕ → List Row → Ongoing
after_ending o s rows = record o { kept = with_rows (released_rows (number_in (own_transaction o s)) rows) o.kept; sessions = with_session o.sessions s None; phases = left o.phases (class_at (own_transaction o s)) }

-- once it has committed: what its writes leave of the keys is their value, and the keys are in the open set
abbrev pub after_committing : Ongoing → ℕ → Ongoing
after_committing o s = record (after_ending o s (map (written_row (left_by (writes_in (own_transaction o s)) o.kept.rows)) o.kept.rows)) { open_set = o.open_set ++ new_keys o.kept.rows (writes_in (own_transaction o s)) }

-- once it was undone
abbrev pub after_aborting : Ongoing → ℕ → Ongoing
after_aborting o s = after_ending o s o.kept.rows

-- once the phase has changed; at the seal the open set becomes the closed one
abbrev pub after_phase_change : Change → Ongoing → Ongoing
after_phase_change change.Seal o = record o { kept = with_rows (map closed_row o.kept.rows) o.kept; open_set = []; closed_set = o.open_set; phases = advanced o.phases change.Seal }
after_phase_change other o = record o { phases = advanced o.phases other }

-- once this first key of the closed set was taken, and these are left
abbrev pub after_taking : List ℕ → List (List ℕ) → Ongoing → Ongoing
after_taking key keys o = record o { kept = with_rows (left_rows o.kept.rows key) o.kept; closed_set = keys }
