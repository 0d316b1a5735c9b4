-- The floor of slots: of each key its slot with the queue of its requests, and the keys of the two sets in order.
use Rattle.std.specs.Ordering.{is_lt}
use Rattle.std.specs.Prelude.{◌≡◌, ℕ, ◌+◌, ◌==◌, ◌&&◌, ◌||◌, not, filter, Bool, false, Option, Some, None, is_some, List, [], ◌∷◌, ◌++◌, map, if◌then◌else◌}
use Rattle.std.specs.List.{list_any}
use Rattle.std.specs.FinMap.{find}
use Rattle.pc_types.specs.declared.Class.{Class}
use Rattle.pc_types.specs.declared.Mode.{Mode}
use Rattle.pc_types.specs.declared.Outcome.{Outcome}
use Rattle.pc_model.specs.Locks.{Queue, is_ungranted, queue_after, queue_without, request_in}
use Rattle.pc_types.specs.declared.Write.{Write}
use Rattle.pc_model.specs.Database.{KeysRise, key_cmp, same_bytes, written}
use Rattle.pc_locks.specs.States.{Queues, queue_at}
use Rattle.pc_model.specs.Queues.{stands_in, IsLegalQueue}
use Rattle.pc_slots.specs.Slots.{Slot, new_slot, is_kept_slot, taken_slot, pinned, keeps_copy, committed, settled, undone, Pending, pending_in, IsSlotSound}
use Rattle.pc_records.specs.Rows.{Row}
use Rattle.pc_records.specs.RowSteps.{released_rows}
use Rattle.pc_records.specs.Slots.{with_optional_entry}
use Rattle.pc_records.specs.Tables.{RecordsView, AreListed}

-- a slot, and the queue of its key's requests
pub record Spot : Type 0 where
  pub slot : Slot
  pub queue : Queue

-- how many slots there may be, the slots, ascending by key, and the keys of the open set and of the closed one, in order
pub record Floor : Type 0 where
  pub capacity : ℕ
  pub spots : List Spot
  pub opened : List (List ℕ)
  pub closed : List (List ℕ)

-- a slot with its queue, given the queue of each number
abbrev pub spot_of : Queues → Slot → Spot
spot_of queues slot = record { slot = slot; queue = queue_at queues slot.number }

abbrev pub spots_of : Queues → List Slot → List Spot
spots_of queues slots = map (spot_of queues) slots

abbrev pub floor_of : ℕ → Queues → List Slot → List (List ℕ) → List (List ℕ) → Floor
floor_of capacity queues slots opened closed = record { capacity = capacity; spots = spots_of queues slots; opened = opened; closed = closed }

-- the spot so changed, if it has the number
abbrev pub at_spot : (Spot → Spot) → ℕ → Spot → Spot
at_spot f number spot = if spot.slot.number == number then f spot else spot

-- the floor, of which the spot of this number is so changed
abbrev pub with_spot : (Spot → Spot) → ℕ → Floor → Floor
with_spot f number floor = record floor { spots = map (at_spot f number) floor.spots }

-- a spot with its slot so changed
abbrev pub with_slot_changed : (Slot → Slot) → Spot → Spot
with_slot_changed f spot = record spot { slot = f spot.slot }

-- a spot with its queue so changed
abbrev pub queued : (Queue → Queue) → Spot → Spot
queued g spot = record spot { queue = g spot.queue }

-- a spot without the transaction's request
abbrev pub let_go : ℕ → Spot → Spot
let_go t = queued (λ q. queue_without q t)

-- a spot once the transaction's request of its slot was so answered
abbrev pub asked : ℕ → Mode → Outcome → Spot → Spot
asked t mode answer = queued (λ q. queue_after q t mode answer)

-- the queue at the slot of the number; none if there is no such slot
abbrev pub queue_at_slot : List Spot → ℕ → Queue
queue_at_slot [] number = []
queue_at_slot (spot ∷ spots) number = if spot.slot.number == number then spot.queue else queue_at_slot spots number

-- a request of the transaction waits
abbrev pub waits_anywhere : List Spot → ℕ → Bool
waits_anywhere spots t = list_any (λ spot. is_ungranted (request_in spot.queue t)) spots

-- a slot has the number
abbrev pub has_spot : List Spot → ℕ → Bool
has_spot spots number = list_any (λ spot. spot.slot.number == number) spots

-- the transaction has a request at the spot of this number, or at any
abbrev pub stands_at : List Spot → ℕ → ℕ → Bool
stands_at spots number t = list_any (λ spot. (spot.slot.number == number) && stands_in spot.queue t) spots

abbrev pub stands_anywhere : List Spot → ℕ → Bool
stands_anywhere spots t = list_any (λ spot. stands_in spot.queue t) spots

-- the key of a slot that goes into the open set once its write is committed: it has a writer, and isn't in the set
abbrev pub newly_opened : List Spot → ℕ → List (List ℕ)
newly_opened [] number = []
newly_opened (spot ∷ spots) number = if spot.slot.number == number then if is_some spot.slot.writer && not spot.slot.is_in_open_set then spot.slot.key ∷ [] else [] else newly_opened spots number

-- the number of the key's slot; none if the key has no slot
abbrev pub slot_number_of : List Spot → List ℕ → Option ℕ
slot_number_of [] key = None
slot_number_of (spot ∷ spots) key = if same_bytes key spot.slot.key then Some spot.slot.number else slot_number_of spots key

-- a slot of a key that has nothing yet, and no request
abbrev pub new_spot : ℕ → List ℕ → Spot
new_spot number key = record { slot = new_slot number key; queue = [] }

-- the spots with this one, before the first whose key is greater
abbrev pub spots_with : Spot → List Spot → List Spot
spots_with new [] = new ∷ []
spots_with new (spot ∷ spots) = if is_lt (key_cmp new.slot.key spot.slot.key) then new ∷ spot ∷ spots else spot ∷ spots_with new spots

-- something keeps the spot: a value, a version, a request or a set
abbrev pub is_needed : Spot → Bool
is_needed spot = is_kept_slot spot.queue spot.slot

-- the spots without that of this number if nothing keeps it
abbrev pub tidied : ℕ → List Spot → List Spot
tidied number spots = filter (λ spot. not (spot.slot.number == number) || is_needed spot) spots

-- the first key of the closed set, whose slot has the number, was taken
pub record TakesFirstSpot (old new : Floor) (number : ℕ) : Type 0 where
  pub key : List ℕ
  pub keys : List (List ℕ)
  pub first : old.closed ≡ key ∷ keys
  pub found : slot_number_of old.spots key ≡ Some number
  pub taken : new ≡ record (with_spot (with_slot_changed taken_slot) number old) { closed = keys }

-- what the key has at the point, if it is in the closed set
abbrev pub content_at_point : List Spot → List ℕ → Option (List ℕ)
content_at_point [] key = None
content_at_point (spot ∷ spots) key = if same_bytes key spot.slot.key then pinned spot.slot else content_at_point spots key

-- the first of the keys, with what it has at the point
abbrev pub first_of_closed : List Spot → List (List ℕ) → Option (List ℕ × Option (List ℕ))
first_of_closed spots [] = None
first_of_closed spots (key ∷ keys) = Some (key, content_at_point spots key)

-- what the slot of the number has of something; none if there is no such slot
abbrev pub of_spot : (Slot → Option (List ℕ)) → List Spot → ℕ → Option (List ℕ)
of_spot f [] number = None
of_spot f (spot ∷ spots) number = if spot.slot.number == number then f spot.slot else of_spot f spots number

-- what a write of a transaction of the class keeps of the slot
abbrev pub copy_kept : ℕ → Class → Slot → Option (List ℕ)
copy_kept point class slot = if keeps_copy point class slot then slot.live else None

-- what is committed of the key
abbrev pub committed_at : List Spot → List ℕ → Option (List ℕ)
committed_at [] key = None
committed_at (spot ∷ spots) key = if same_bytes key spot.slot.key then committed spot.slot else committed_at spots key

-- a spot without its slot's number
abbrev pub unnumbered : Spot → Spot
unnumbered spot = record spot { slot = record spot.slot { number = 0 } }

-- the spot of a pair's key, whose value is committed and which has nothing else
abbrev pub first_spot : List ℕ × List ℕ → Spot
first_spot pair = record { slot = record (new_slot 0 pair.0) { live = Some pair.1 }; queue = [] }

-- there is a slot for each of the pairs, and no more
pub record IsInitialFloor (capacity : ℕ) (pairs : List (List ℕ × List ℕ)) (floor : Floor) : Type 0 where
  pub size : floor.capacity ≡ capacity
  pub spots : map unnumbered floor.spots ≡ map first_spot pairs
  pub opened : floor.opened ≡ []
  pub closed : floor.closed ≡ []

-- the row of a spot
abbrev pub row_in : Spot → Row
row_in spot = (spot.slot.key, record { value = committed spot.slot; is_in_open_set = spot.slot.is_in_open_set; is_in_closed_set = spot.slot.is_in_closed_set; pinned = pinned spot.slot; requests = spot.queue })

abbrev pub rows_in : List Spot → List Row
rows_in spots = map row_in spots

-- the writes of open transactions in the spots
abbrev pub pending_writes : List Spot → List (List ℕ × Pending)
pending_writes [] = []
pending_writes (spot ∷ spots) = with_optional_entry spot.slot.key (pending_in spot.slot) (pending_writes spots)

-- the records on the floor, given the point of the last closed set
abbrev pub table_on : ℕ → Floor → RecordsView
table_on point floor = record { capacity = floor.capacity; rows = rows_in floor.spots; pending = pending_writes floor.spots; point = point; opened = floor.opened; shut = floor.closed }

-- that holds of each of the spots
abbrev pub Each : (Spot → Type 0) → List Spot → Type 0
Each P [] = Unit {0}
Each P (spot ∷ spots) = P spot × Each P spots

-- no two of the spots have one number
abbrev pub AreSpotsApart : List Spot → Type 0
AreSpotsApart [] = Unit {0}
AreSpotsApart (spot ∷ spots) = (has_spot spots spot.slot.number ≡ false) × AreSpotsApart spots

-- what a floor keeps: keys ascend, each slot has a number of its own, no two granted requests conflict, and each key is
-- listed if and only if it is in the set
pub record IsFloorWhole (floor : Floor) : Type 0 where
  pub rise : KeysRise (rows_in floor.spots)
  pub apart : AreSpotsApart floor.spots
  pub legal : Each (λ spot. IsLegalQueue spot.queue) floor.spots
  pub listed : AreListed (table_on 0 floor)

-- each of the spots keeps what a slot keeps, given its queue and the point of the last closed set
abbrev pub AreSpotsSound : ℕ → List Spot → Type 0
AreSpotsSound point spots = Each (λ spot. IsSlotSound point spot.queue spot.slot) spots

-- the spot so changed, if it is the key's
abbrev pub at_key : (Spot → Spot) → List ℕ → Spot → Spot
at_key f key spot = if same_bytes key spot.slot.key then f spot else spot

-- the spot so changed, if its key is written
abbrev pub at_writes : (Spot → Spot) → List Write → Spot → Spot
at_writes f writes spot = if is_some (written writes spot.slot.key) then f spot else spot

-- the key, where it goes into the open set once its write is committed
abbrev pub newly_opened_key : List Spot → List ℕ → List (List ℕ)
newly_opened_key [] key = []
newly_opened_key (spot ∷ spots) key = if same_bytes key spot.slot.key then if is_some spot.slot.writer && not spot.slot.is_in_open_set then spot.slot.key ∷ [] else [] else newly_opened_key spots key

-- the same of the keys of the writes, in order
abbrev pub newly_opened_keys : List Spot → List Write → List (List ℕ)
newly_opened_keys spots [] = []
newly_opened_keys spots (w ∷ ws) = newly_opened_key spots w.key ++ newly_opened_keys spots ws

-- the floor once the write of the key is committed
abbrev pub with_settled : ℕ → List ℕ → Floor → Floor
with_settled point key floor = record floor { spots = map (at_key (with_slot_changed (settled point)) key) floor.spots; opened = floor.opened ++ newly_opened_key floor.spots key }

-- the same of these writes
abbrev pub with_all_settled : ℕ → List Write → Floor → Floor
with_all_settled point writes floor = record floor { spots = map (at_writes (with_slot_changed (settled point)) writes) floor.spots; opened = floor.opened ++ newly_opened_keys floor.spots writes }

-- the floor once the write of the key is undone
abbrev pub with_undone : ℕ → List ℕ → Floor → Floor
with_undone point key floor = record floor { spots = map (at_key (with_slot_changed (undone point)) key) floor.spots }

-- the same of these writes
abbrev pub with_all_undone : ℕ → List Write → Floor → Floor
with_all_undone point writes floor = record floor { spots = map (at_writes (with_slot_changed (undone point)) writes) floor.spots }

-- how often the transaction has a request
abbrev pub standing : ℕ → List Spot → ℕ
standing t [] = 0
standing t (spot ∷ spots) = if stands_in spot.queue t then standing t spots + 1 else standing t spots

-- the floor with a slot of the key that has nothing yet
abbrev pub with_new_spot : ℕ → List ℕ → Floor → Floor
with_new_spot number key floor = record floor { spots = spots_with (new_spot number key) floor.spots }

-- the transaction has no write in place
abbrev pub HasNoPendingWrite : ℕ → List Spot → Type 0
HasNoPendingWrite t spots = (q : List ℕ) (p : Pending) → find key_cmp q (pending_writes spots) ≡ Some p → (p.by == t) ≡ false

-- a floor of which the spots were sound, once requests of the transaction are let go, which has no write in place
pub record IsFloorReleased (point t : ℕ) (old new : Floor) : Type 0 where
  pub same : new ≡ record old { spots = new.spots }
  pub writes : pending_writes new.spots ≡ pending_writes old.spots
  pub sound : AreSpotsSound point new.spots
  pub rows : released_rows t (rows_in new.spots) ≡ released_rows t (rows_in old.spots)
