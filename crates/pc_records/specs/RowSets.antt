-- When rows have the same values, and the same keys in the open and in the closed set.
use Rattle.std.specs.Prelude.{◌≡◌, ℕ, List}
use Rattle.pc_records.specs.Rows.{Row, record_of, stored, is_in_open_set, is_in_closed_set}

-- the rows have the same values, and the same keys in both sets
pub record HaveSameContents (old new : List Row) : Type 0 where
  pub value : (q : List ℕ) → stored (record_of new q) ≡ stored (record_of old q)
  pub open_set : (q : List ℕ) → is_in_open_set (record_of new q) ≡ is_in_open_set (record_of old q)
  pub closed_set : (q : List ℕ) → is_in_closed_set (record_of new q) ≡ is_in_closed_set (record_of old q)
