-- The view of a table: rows that ascend by key, each with its slot and its record.
use Rattle.std.specs.Prelude.{◌≡◌, ◌↔◌, ℕ, ◌<◌, ◌≤◌, ◌==◌, not, List, [], ◌∷◌, length, map, filter, Option, Some, None, IsSome, option_map, if◌then◌else◌}
use Rattle.std.specs.FinMap.{find, put}
use denote.Ref.{Bor}
use Rattle.pc_types.specs.declared.limits.TheConstants.{MOST_KEYS}
use Rattle.pc_types.specs.declared.refusal.Refusal.{Refusal}
use Rattle.pc_types.specs.declared.refusal.Refusal.TheVariants.{Full, OutOfMemory}
use Rattle.pc_model.specs.Database.{KeysRise, key_cmp}

-- a row: the key, and its slot with its record
abbrev pub TableRow : Type 0 → Type 0
TableRow T = List ℕ × (ℕ × T)

-- how many rows there may be, and the rows
pub record Contents (T : Type 0) : Type 0 where
  pub capacity : ℕ
  pub rows : List (TableRow T)

module _ {T : Type 0} where
  -- the slot of the key; `None` if the key has no row
  abbrev pub slot_of : List (TableRow T) → List ℕ → Option ℕ
  slot_of rows key = option_map (λ place. place.0) (find key_cmp key rows)

  -- the key and the record in the slot; `None` if the slot has no row
  abbrev pub in_slot : List (TableRow T) → ℕ → Option (List ℕ × T)
  in_slot [] id = None
  in_slot (row ∷ rows) id = if row.1.0 == id then Some (row.0, row.1.1) else in_slot rows id

  -- the slot has a row
  abbrev pub HasRow : List (TableRow T) → ℕ → Type 0
  HasRow rows id = IsSome (in_slot rows id)

  -- the row, in which the slot has another record
  abbrev pub with_record_in : ℕ → T → TableRow T → TableRow T
  with_record_in id x row = (row.0, (row.1.0, if row.1.0 == id then x else row.1.1))

  -- the rows once the slot has the record
  abbrev pub with_record : Contents T → ℕ → T → Contents T
  with_record table id x = record table { rows = map (with_record_in id x) table.rows }

  -- with a row of the key, in place of the one that the key had
  abbrev pub with_row : Contents T → List ℕ → ℕ → T → Contents T
  with_row table key id x = record table { rows = put key_cmp key (id, x) table.rows }

  -- without the row in the slot
  abbrev pub without_slot : Contents T → ℕ → Contents T
  without_slot table id = record table { rows = filter (λ row. not (row.1.0 == id)) table.rows }

  -- as many keys have a row as may have one
  abbrev pub IsTableFull : Contents T → Type 0
  IsTableFull table = length table.rows ≡ table.capacity

  -- why a key gets no row: the table is full, or else an allocation failed
  abbrev pub why_refused : Contents T → Refusal
  why_refused table = if length table.rows == table.capacity then Full else OutOfMemory

  -- there is such a slot, and it has no row
  abbrev pub IsNewSlot : Contents T → ℕ → Type 0
  IsNewSlot table id = (id < table.capacity) × (in_slot table.rows id ≡ None)

  -- the key and the record after the references
  abbrev pub pair_behind : Bor (List ℕ) × Bor T → List ℕ × T
  pair_behind pair = (pair.0.now, pair.1.now)

  -- the rows ascend by key, each has a slot of its own below the capacity, and what is found in a slot is what is found of its
  -- key
  pub record AreInSlots (table : Contents T) : Type 0 where
    pub rise : KeysRise table.rows
    pub most : table.capacity ≤ MOST_KEYS
    pub below : (id : ℕ) → HasRow table.rows id → id < table.capacity
    pub each : (id : ℕ) (key : List ℕ) (x : T) → (in_slot table.rows id ≡ Some (key, x)) ↔ (find key_cmp key table.rows ≡ Some (id, x))
