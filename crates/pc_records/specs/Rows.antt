-- The view of the records of keys: rows that ascend by key, each with what is kept of the key.
use Rattle.std.specs.Prelude.{ℕ, ◌||◌, not, Bool, false, List, [], Option, Some, None, is_some}
use Rattle.std.specs.FinMap.{find}
use Rattle.pc_model.specs.Database.{key_cmp}
use Rattle.pc_model.specs.Locks.{Queue}
use Rattle.pc_model.specs.Replies.{is_empty}

-- The record of a key: the committed value, if it has one; whether it is in the open set, so that a commit since the last
-- resolve token, or since the start, wrote it; whether it is in the closed set; the value that it has at the point, if it
-- has one there and is in the closed set; and the requests of its lock.
pub record Record : Type 0 where
  pub value : Option (List ℕ)
  pub is_in_open_set : Bool
  pub is_in_closed_set : Bool
  pub pinned : Option (List ℕ)
  pub requests : Queue

-- a row: a key with what is kept of it
abbrev pub Row : Type 0
Row = List ℕ × Record

-- the records, ascending by key, and how many there may be
pub record Kept : Type 0 where
  pub capacity : ℕ
  pub rows : List Row

-- the record of the key
abbrev pub record_of : List Row → List ℕ → Option Record
record_of rows key = find key_cmp key rows

-- the committed value of a record
abbrev pub stored : Option Record → Option (List ℕ)
stored None = None
stored (Some r) = r.value

-- the key is in the open set
abbrev pub is_in_open_set : Option Record → Bool
is_in_open_set None = false
is_in_open_set (Some r) = r.is_in_open_set

-- the key is in the closed set
abbrev pub is_in_closed_set : Option Record → Bool
is_in_closed_set None = false
is_in_closed_set (Some r) = r.is_in_closed_set

-- what a key of the closed set has at the point
abbrev pub at_point : Option Record → Option (List ℕ)
at_point None = None
at_point (Some r) = r.pinned

-- the requests of the key
abbrev pub requests_on : Option Record → Queue
requests_on None = []
requests_on (Some r) = r.requests

-- something keeps the record: a value, a request, or one of the two sets
abbrev pub is_kept : Record → Bool
is_kept r = is_some r.value || (not (is_empty r.requests) || (r.is_in_open_set || r.is_in_closed_set))
