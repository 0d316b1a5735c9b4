-- The contents of a table's slots: a key with its record each, which an index finds.
use Rattle.std.specs.Prelude.{ℕ, ◌+◌, ◌≤◌, List, [], ◌∷◌, length, Option, Some, None}
use Rattle.std.specs.FinMap.{put}
use Rattle.pc_types.specs.declared.limits.TheConstants.{MOST_KEYS}
use Rattle.pc_model.specs.Database.{key_cmp}
use Rattle.pc_chain.specs.Slots.{Slots}
use Rattle.pc_index.specs.Indexes.{IndexView, IsIndex}
use Rattle.pc_table.specs.Rows.{TableRow, Contents}
use Rattle.pc_table.specs.declared.entry.TableEntry.{TableEntry}

module _ {T : Type 0} where
  -- the key of an entry
  abbrev pub key_in : TableEntry T → List ℕ
  key_in entry = entry.key

  -- the entry of a key and a record
  abbrev pub entry_of : List ℕ → T → TableEntry T
  entry_of key x = record { key = key; item = x }

  -- the rows with the one of an entry, if there is one, which has the slot
  abbrev pub with_entry : ℕ → Option (TableEntry T) → List (TableRow T) → List (TableRow T)
  with_entry id None rows = rows
  with_entry id (Some entry) rows = put key_cmp entry.key (id, entry.item) rows

  -- the rows of the entries in slots from the n-th on
  abbrev pub rows_from : ℕ → List (Option (TableEntry T)) → List (TableRow T)
  rows_from n [] = []
  rows_from n (item ∷ items) = with_entry n item (rows_from (n + 1) items)

  -- what is seen of the entries
  abbrev pub contents_of : List (Option (TableEntry T)) → Contents T
  contents_of items = record { capacity = length items; rows = rows_from 0 items }

  -- the index is of these entries, and there are at most that many slots
  pub record AreEntriesKept (slots : Slots (TableEntry T)) (by_key : IndexView) : Type 0 where
    pub index : IsIndex key_in slots by_key
    pub most : length slots.items ≤ MOST_KEYS
