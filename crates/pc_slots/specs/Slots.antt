-- A slot: what is kept of a key besides the requests of its lock, and what each moment makes of it.
use Rattle.std.specs.Prelude.{◌≡◌, ℕ, ◌≤◌, ◌==◌, ◌&&◌, ◌||◌, not, Bool, true, false, List, length, Option, Some, None, is_some, is_none, if◌then◌else◌}
use Rattle.std.specs.Global.{Box}
use Rattle.std.specs.List.{list_any}
use Rattle.pc_types.specs.declared.Class.{Class}
use Rattle.pc_types.specs.declared.Class.TheVariants.{Before, During, After}
use Rattle.pc_types.specs.declared.Outcome.{Outcome}
use Rattle.pc_types.specs.declared.Outcome.TheVariants.{Granted, Queued, Died}
use Rattle.pc_types.specs.Phases.{same_class}
use Rattle.pc_model.specs.Locks.{Queue, is_exclusive}
use Rattle.pc_dirty.specs.declared.side.Side.{Side}
use Rattle.pc_dirty.specs.Sets.{other_side}
use Rattle.pc_slots.specs.declared.cells.Cell.{Cell}
use Rattle.pc_slots.specs.declared.versions.Aside.{Aside}
use Rattle.pc_slots.specs.declared.versions.Stable.{Stable}
use Rattle.pc_slots.specs.declared.versions.Stable.TheVariants.{Empty, Held}
use Rattle.pc_slots.specs.declared.versions.Writer.{Writer}
use Rattle.pc_slots.specs.Words.{blank_mark, is_marked}

-- a slot: its number, its key, and what is kept of the key: the content of its place, the version that is held and the point that
-- it is known to be of, the open transaction that has written the key, and whether the key is in the two sets
pub record Slot : Type 0 where
  pub number : ℕ
  pub key : List ℕ
  pub live : Option (List ℕ)
  pub stable : Stable
  pub mark : ℕ
  pub writer : Option Writer
  pub is_in_open_set : Bool
  pub is_in_closed_set : Bool

-- nothing is kept aside
abbrev pub nothing_aside : Aside
nothing_aside = record { writer = None; stable = Empty; mark = 0 }

-- what is kept aside in the box, and nothing if there is none
abbrev pub aside_in : Option (Box Aside) → Aside
aside_in None = nothing_aside
aside_in (Some b) = b.value

-- the open transaction that has written the cell's key
abbrev pub writer_in : Cell → Option Writer
writer_in cell = (aside_in cell.aside).writer

-- the slot with this kept aside
abbrev pub with_aside : Aside → Slot → Slot
with_aside aside slot = record slot { stable = aside.stable; mark = aside.mark; writer = aside.writer }

-- the slot of the number and the key that has this, if the open set is on the side
abbrev pub slot_with : Side → ℕ → List ℕ → Cell → Slot
slot_with side number key cell = record { number = number; key = key; live = cell.live; stable = (aside_in cell.aside).stable; mark = (aside_in cell.aside).mark; writer = writer_in cell; is_in_open_set = is_marked side cell; is_in_closed_set = is_marked (other_side side) cell }

-- what is kept of a key that has this committed, a value or absence, and nothing else; there is no request
abbrev pub base_cell : Option (List ℕ) → Cell
base_cell content = record { live = content; aside = None; first_next = 0; second_next = 0; first = blank_mark; second = blank_mark; has_first = false; has_last = false; first_request = 0; last_request = 0 }

-- the committed content of a key: what its writer found, or else the content of its place
abbrev pub committed_by : Option Writer → Option (List ℕ) → Option (List ℕ)
committed_by None live = live
committed_by (Some w) live = w.before

-- the committed value of the slot's key
abbrev pub committed : Slot → Option (List ℕ)
committed slot = committed_by slot.writer slot.live

-- the version that is held, or else the content of the place
abbrev pub version_or : Stable → Option (List ℕ) → Option (List ℕ)
version_or Empty live = live
version_or (Held value) live = value

-- what the slot's key has at the point, if it is in the closed set
abbrev pub pinned : Slot → Option (List ℕ)
pinned slot = if slot.is_in_closed_set then version_or slot.stable slot.live else None

-- what an open transaction has put in a key's place: its number and its class, and what it wrote last, a value or absence
pub record Pending : Type 0 where
  pub by : ℕ
  pub class : Class
  pub value : Option (List ℕ)

-- the write of an open transaction, given the content of the key's place
abbrev pub pending_of_writer : Option Writer → Option (List ℕ) → Option Pending
pending_of_writer None live = None
pending_of_writer (Some w) live = Some (record { by = w.transaction; class = w.class; value = live })

-- the write of an open transaction in the slot
abbrev pub pending_in : Slot → Option Pending
pending_in slot = pending_of_writer slot.writer slot.live

-- what the slot holds is what its key has at the point: the key is in the closed set, and the mark is of the point
abbrev pub is_available : ℕ → Slot → Bool
is_available point slot = slot.is_in_closed_set && (slot.mark == point)

-- a version is held
abbrev pub is_held : Stable → Bool
is_held Empty = false
is_held (Held value) = true

-- nothing is kept
abbrev pub is_blank : Aside → Bool
is_blank aside = is_none aside.writer && (not (is_held aside.stable) && (aside.mark == 0))

-- what is held during a write if the slot isn't available
abbrev pub held_for : Option Writer → Stable
held_for None = Empty
held_for (Some w) = if same_class w.class During then Held w.before else Empty

-- a writer, if there is one, began in prepare
abbrev pub is_prepared : Option Writer → Bool
is_prepared None = true
is_prepared (Some w) = same_class w.class During

-- the transaction has an exclusive request in the queue that is granted
abbrev pub has_exclusive : Queue → ℕ → Bool
has_exclusive queue t = list_any (λ r. (r.transaction == t) && (is_exclusive r.mode && r.granted)) queue

-- a writer, if there is one, has the exclusive lock
abbrev pub is_locked : Queue → Option Writer → Bool
is_locked queue None = true
is_locked queue (Some w) = has_exclusive queue w.transaction

-- what a slot keeps, given its queue and the point of the last closed set
pub record IsSlotSound (point : ℕ) (queue : Queue) (slot : Slot) : Type 0 where
  -- no mark is of a later point
  pub passed : slot.mark ≤ point
  -- an available slot holds a version
  pub holds : is_available point slot ≡ true → is_held slot.stable ≡ true
  -- another one holds what is committed if its writer began in prepare, and otherwise nothing
  pub follows : is_available point slot ≡ false → slot.stable ≡ held_for slot.writer
  -- a key of the closed set that isn't available is written by no transaction but one that began in prepare
  pub prepared : slot.is_in_closed_set ≡ true → (slot.mark == point) ≡ false → is_prepared slot.writer ≡ true
  -- a writer has the exclusive lock of the key
  pub locked : is_locked queue slot.writer ≡ true

-- something keeps the slot, given its queue: a value, a version, a request, or one of the two sets
abbrev pub is_kept_slot : Queue → Slot → Bool
is_kept_slot queue slot = is_some slot.live || (is_held slot.stable || (not (length queue == 0) || (slot.is_in_open_set || slot.is_in_closed_set)))

-- a slot of a key that has nothing yet
abbrev pub new_slot : ℕ → List ℕ → Slot
new_slot number key = record { number = number; key = key; live = None; stable = Empty; mark = 0; writer = None; is_in_open_set = false; is_in_closed_set = false }

-- what is held once a transaction that began in prepare wrote the key first: what is held already, or else this copy
abbrev pub held_or : Stable → Option (List ℕ) → Stable
held_or Empty copy = Held copy
held_or (Held value) copy = Held value

-- the slot before the first write of a transaction of the class, given a copy of the content of the place
abbrev pub saved : ℕ → Class → Option (List ℕ) → Slot → Slot
saved point Before copy slot = slot
saved point During copy slot = record slot { stable = held_or slot.stable copy }
saved point After copy slot = if slot.is_in_closed_set && not (slot.mark == point) then record slot { stable = Held copy; mark = point } else slot

-- a transaction of the class saves a copy of the content of the place, if it has not written the slot yet
abbrev pub saves_copy : Class → ℕ → Slot → Bool
saves_copy Before point slot = false
saves_copy During point slot = not (is_held slot.stable)
saves_copy After point slot = slot.is_in_closed_set && not (slot.mark == point)

-- the write of a transaction of the class keeps a copy of the content of the place
abbrev pub keeps_copy : ℕ → Class → Slot → Bool
keeps_copy point class slot = is_none slot.writer && saves_copy class point slot

-- the slot once a transaction has written the key for the first time
abbrev pub first_put : ℕ → ℕ → Class → Option (List ℕ) → Option (List ℕ) → Slot → Slot
first_put point t class copy value slot = record (saved point class copy slot) { live = value; writer = Some (record { transaction = t; class = class; before = slot.live }) }

-- the slot once a transaction has written the key, which may have a writer
abbrev pub put_beside : Option Writer → ℕ → ℕ → Class → Option (List ℕ) → Option (List ℕ) → Slot → Slot
put_beside None point t class copy value slot = first_put point t class copy value slot
put_beside (Some w) point t class copy value slot = record slot { live = value }

-- the slot once a transaction has written the key
abbrev pub put_slot : ℕ → ℕ → Class → Option (List ℕ) → Option (List ℕ) → Slot → Slot
put_slot point t class copy value slot = put_beside slot.writer point t class copy value slot

-- the slot once the transaction's request to write the key was answered
abbrev pub granted_slot : Outcome → ℕ → ℕ → Class → Option (List ℕ) → Option (List ℕ) → Slot → Slot
granted_slot Granted point t class copy value slot = put_slot point t class copy value slot
granted_slot Queued point t class copy value slot = slot
granted_slot Died point t class copy value slot = slot

-- the slot once its writer, of the class, has committed
abbrev pub settled_class : Class → ℕ → Slot → Slot
settled_class Before point slot = record slot { writer = None; is_in_open_set = true }
settled_class During point slot = if slot.is_in_closed_set then record slot { mark = point; writer = None; is_in_open_set = true } else record slot { stable = Empty; writer = None; is_in_open_set = true }
settled_class After point slot = record slot { writer = None; is_in_open_set = true }

-- the slot once its writer, if there is one, has committed
abbrev pub settled_from : Option Writer → ℕ → Slot → Slot
settled_from None point slot = slot
settled_from (Some w) point slot = settled_class w.class point slot

-- the slot once its write is committed
abbrev pub settled : ℕ → Slot → Slot
settled point slot = settled_from slot.writer point slot

-- the slot once its writer, if there is one, is undone
abbrev pub undone_from : Option Writer → ℕ → Slot → Slot
undone_from None point slot = slot
undone_from (Some w) point slot = record slot { live = w.before; writer = None; stable = if same_class w.class During && not (is_available point slot) then Empty else slot.stable }

-- the slot once its write is undone
abbrev pub undone : ℕ → Slot → Slot
undone point slot = undone_from slot.writer point slot

-- the slot once the open set is closed
abbrev pub closed_slot : Slot → Slot
closed_slot slot = record slot { is_in_open_set = false; is_in_closed_set = slot.is_in_open_set }

-- the slot once its key is taken
abbrev pub taken_slot : Slot → Slot
taken_slot slot = record slot { is_in_closed_set = false; stable = Empty; mark = 0 }
