-- The joint invariant of the sessions, the records and the cycle: open transactions have their writes in place.
use Rattle.pc_model.specs.Database.{written}
use Rattle.pc_model.specs.Changes.{AppliesIfAny}
use Rattle.std.specs.Prelude.{◌≡◌, ℕ, ◌<◌, ◌≤◌, Bool, true, false, List, [], length, Option, Some, None, is_some, option_map, slice_index_or, ◌⊎◌}
use Rattle.pc_types.specs.declared.Class.{Class}
use Rattle.pc_types.specs.declared.Class.TheVariants.{Before, During, After}
use Rattle.pc_types.specs.declared.Phase.{Phase}
use Rattle.pc_types.specs.declared.Phase.TheVariants.{Rest, Prepare, Resolve, Capture, Complete}
use Rattle.pc_model.specs.Points.{is_among}
use Rattle.pc_types.specs.Phases.{same_phase}
use Rattle.pc_types.specs.declared.limits.TheConstants.{MOST_SESSIONS, MOST_TRANSACTIONS}
use Rattle.pc_phase.specs.Phases.{Phases}
use Rattle.pc_records.specs.Rows.{Row, record_of, is_in_open_set, is_in_closed_set, stored}
use Rattle.pc_slots.specs.Slots.{Pending}
use Rattle.pc_records.specs.Tables.{RecordsView, pending_at}
use Rattle.pc_transactions.specs.Counts.{AreCounted}
use Rattle.pc_transactions.specs.Sessions.{number_in, left_by, AreFew, writes_in}
use Rattle.pc_transactions.specs.Actives.{Active}

-- the open transaction at the place, if there is one
abbrev pub at_place : List (Option Active) → ℕ → Option Active
at_place sessions i = slice_index_or sessions i None

-- the transaction's write of the key, in the key's place, if these rows have the committed contents
abbrev pub write_in : List Row → Option Active → List ℕ → Option Pending
write_in rows None key = None
write_in rows (Some t) key = option_map (λ value. record { by = t.number; class = t.class; value = value }) (left_by t.writes rows key)

-- Each write of an open transaction is in its key's place, and only such writes are there; and its effect on the key applies to
-- what is committed.
pub record AreInPlace (table : RecordsView) (sessions : List (Option Active)) : Type 0 where
  pub placed : (i : ℕ) (q : List ℕ) → is_some (write_in table.rows (at_place sessions i) q) ≡ true → pending_at table q ≡ write_in table.rows (at_place sessions i) q
  pub owned : (q : List ℕ) → (pending_at table q ≡ None) ⊎ ((i : ℕ) × (pending_at table q ≡ write_in table.rows (at_place sessions i) q))
  pub apply : (i : ℕ) (q : List ℕ) → AppliesIfAny (written (writes_in (at_place sessions i)) q) (stored (record_of table.rows q))

-- open transactions have numbers of their own, and none has one that is still to be given
pub record AreNumbered (begun : ℕ) (sessions : List (Option Active)) : Type 0 where
  pub apart : (i j : ℕ) → is_some (at_place sessions i) ≡ true → is_some (at_place sessions j) ≡ true → number_in (at_place sessions i) ≡ number_in (at_place sessions j) → i ≡ j
  pub given : (i : ℕ) → number_in (at_place sessions i) ≤ begun

-- the classes that may be active in a phase
abbrev pub may_be_active : Phase → Class → Bool
may_be_active Rest Before = true
may_be_active Prepare Before = true
may_be_active Prepare During = true
may_be_active Resolve During = true
may_be_active Resolve After = true
may_be_active Capture After = true
may_be_active Complete Before = true
may_be_active Complete After = true
may_be_active phase class = false

-- the transaction, if there is one, is of such a class
abbrev pub fits_phase : Phase → Option Active → Bool
fits_phase phase None = true
fits_phase phase (Some t) = may_be_active phase t.class

-- each key of the open set, and each of the closed set, is in its list
pub record AreSetsListed (rows : List Row) (open_keys closed_keys : List (List ℕ)) : Type 0 where
  pub open_set : (q : List ℕ) → is_in_open_set (record_of rows q) ≡ true → is_among open_keys q ≡ true
  pub closed_set : (q : List ℕ) → is_in_closed_set (record_of rows q) ≡ true → is_among closed_keys q ≡ true

-- the phases in which keys of a point may be left to take
abbrev pub is_open_point : Phase → Bool
is_open_point Resolve = true
is_open_point Capture = true
is_open_point phase = false

-- All this together; in other phases no key is left to take, the last closed set is of no later point than the cycle, and in
-- prepare of an earlier one.
pub record HoldTogether (table : RecordsView) (sessions : List (Option Active)) (begun : ℕ) (phase : Phase) (point : ℕ) (open_keys closed : List (List ℕ)) : Type 0 where
  pub writes : AreInPlace table sessions
  pub numbers : AreNumbered begun sessions
  pub classes : (i : ℕ) → fits_phase phase (at_place sessions i) ≡ true
  pub sets : AreSetsListed table.rows open_keys closed
  pub idle : is_open_point phase ≡ false → closed ≡ []
  pub within : table.point ≤ point
  pub fresh : same_phase phase Prepare ≡ true → table.point < point

-- All that the sessions keep with their records and the phases: that holds together with the keys of both sets; the phases count
-- the open transactions by class; and counts are within their limits.
pub record StandTogether (table : RecordsView) (sessions : List (Option Active)) (phases : Phases) (begun : ℕ) : Type 0 where
  pub hold : HoldTogether table sessions begun phases.phase phases.point table.opened table.shut
  pub counted : AreCounted phases sessions
  pub few : AreFew sessions
  pub most_sessions : length sessions ≤ MOST_SESSIONS
  pub most_begun : begun ≤ MOST_TRANSACTIONS
  pub has_point : (same_phase phases.phase Rest ≡ true) ⊎ (1 ≤ phases.point)

-- open transactions, with numbers of their own, have their writes in place
pub record AreOpen (table : RecordsView) (sessions : List (Option Active)) (begun : ℕ) : Type 0 where
  pub writes : AreInPlace table sessions
  pub numbers : AreNumbered begun sessions
