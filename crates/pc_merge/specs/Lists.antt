-- The future of a list of entries.
use Rattle.std.specs.Prelude.{ℕ, Bool, IsTrue, List, Option, Some, None}
use Rattle.std.specs.List.{All}
use Rattle.std.specs.Vec.Iter.{into_iter_items}
use Rattle.pc_types.specs.declared.Triple.{Triple}
use Rattle.pc_merge.specs.Coming.{Coming, Standing}
use Rattle.pc_merge.specs.declared.entries.EntryList.{EntryList}

-- the entries, and the end
abbrev pub all_of : List Triple → Option Coming
all_of entries = Some (record { entries = entries; fault = None })

-- those that a list has left
abbrev pub list_coming : EntryList → Option Coming
list_coming list = all_of (into_iter_items list.entries)

-- a list refuses nothing, and no call fails
abbrev pub list_standing : EntryList → Standing
list_standing list = record { refused = None; failures = 0 }

-- the entries that it has left are of these points
abbrev pub list_within : EntryList → (ℕ → Bool) → Type 0
list_within list points = All (λ entry. IsTrue (points entry.point)) (into_iter_items list.entries)
