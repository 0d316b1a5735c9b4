-- The relation of the records to a history.
use Rattle.std.specs.Prelude.{◌≡◌, ℕ, Bool, true, false, List, Option, Some, None, is_some}
use Rattle.pc_model.specs.Maps as map_of
use Rattle.pc_model.specs.Database.{Database, KeysRise}
use Rattle.pc_model.specs.Points.{is_among}
use Rattle.pc_model.specs.Locks.{queue_of}
use Rattle.pc_model.specs.Log.{state_at}
use Rattle.pc_model.specs.History.{History, contents, log_of, point_of}
use Rattle.pc_model.specs.Replies.{open_set, closed_set}
use Rattle.pc_records.specs.Rows.{Row, Record, record_of, stored, is_in_open_set, is_in_closed_set, at_point, requests_on, is_kept}

-- there is a record, and something keeps it
abbrev pub stands_kept : Option Record → Bool
stands_kept None = false
stands_kept (Some r) = is_kept r

-- each key's record is what the history says of the key, and no record is kept for nothing
pub record AreRecords (base : Database) (rows : List Row) (history : History) : Type 0 where
  pub sorted : KeysRise rows
  pub stored : (key : List ℕ) → stored (record_of rows key) ≡ map_of.get (contents base history) key
  pub requests : (key : List ℕ) → requests_on (record_of rows key) ≡ queue_of key history
  pub open_set : (key : List ℕ) → is_in_open_set (record_of rows key) ≡ is_among (open_set history) key
  pub closed_set : (key : List ℕ) → is_in_closed_set (record_of rows key) ≡ is_among (closed_set history) key
  pub point : (key : List ℕ) → is_in_closed_set (record_of rows key) ≡ true → at_point (record_of rows key) ≡ map_of.get (state_at base (log_of history) (point_of history)) key
  pub kept : (key : List ℕ) → is_some (record_of rows key) ≡ stands_kept (record_of rows key)
