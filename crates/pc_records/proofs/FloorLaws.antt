-- The floor of slots, seen again if one of them or its queue has changed.
use Rattle.std.proofs.Common.{◌≡◌, ◌≢◌, ℕ, List, [], ◌∷◌, ◌++◌, map, Option, Some, None, is_some, option_map, refl, sym, ap, ◌∙◌, subst, cond, Bool, true, false, eqb, ◌||◌, ◌&&◌, not, arith}
use Rattle.std.proofs.lemmas.Bool.Decides.{nat_tests}
use Rattle.std.specs.Prelude.{IfOk, IfSome, IfNone, OnErr, Result, Ok, Err}
use Rattle.pc_types.specs.declared.Class.{Class}
use Rattle.pc_chain.specs.declared.chain.Chain.{Chain}
use Rattle.pc_types.specs.declared.Mode.{Mode}
use Rattle.pc_types.specs.declared.Outcome.{Outcome}
use Rattle.std.specs.FinMap.{find}
use Rattle.pc_model.specs.Database.{key_cmp, same_bytes}
use Rattle.pc_model.specs.Locks.{Queue, is_ungranted, outcome, queue_after, queue_without, request_in}
use Rattle.pc_model.specs.Queues.{stands_in}
use Rattle.pc_locks.specs.States.{Queues, queue_at, slots_of, first_in_list, SetsAt}
use Rattle.pc_dirty.specs.declared.side.Side.{Side}
use Rattle.pc_dirty.specs.declared.dirty.Dirty.{Dirty}
use Rattle.pc_dirty.specs.Sets.{other_side, AreSets}
use Rattle.pc_table.specs.Rows.{TableRow, Contents, in_slot, HasRow, slot_of as table_slot}
use Rattle.pc_slots.specs.declared.cells.Cell.{Cell}
use Rattle.pc_slots.specs.Slots.{Slot, writer_in, put_slot, settled, closed_slot}
use Rattle.pc_slots.specs.Words.{is_marked}
use Rattle.pc_records.specs.Ends.{ends_in, queues_in, KeepSlots}
use Rattle.pc_records.specs.RowSteps.{is_waiting_in_rows}
use Rattle.pc_records.specs.Slots.{slots_in, at_number, rows_of, numbers_of, times, AreSlotsKept}
use Rattle.pc_records.specs.SetLists.{IsListed, KeepSets, HasPlace, next_in, open_slots, entering, open_keys, closed_keys}
use Rattle.pc_records.specs.Floor.{Spot, spot_of, spots_of, floor_of, at_spot, with_spot, with_slot_changed, queued, let_go, asked, queue_at_slot, has_spot, stands_at, stands_anywhere, waits_anywhere, newly_opened, slot_number_of}
use Rattle.pc_records.proofs.Listing.{kept_open, kept_closed}
use Rattle.pc_records.proofs.Moments.{settled_number}
use Rattle.pc_records.proofs.SidesTurned.{slots_turned, turned_open, turned_closed}
use Rattle.pc_records.proofs.SlotWaiting.{waits_same}
use Rattle.pc_records.proofs.SlotReleasing.{slot_there, stands_first, stands_nowhere}
use Rattle.pc_records.proofs.SlotKeeping.{kept_map}
use Rattle.pc_locks.specs.States as states
use Rattle.pc_locks.specs.Keepers as keepers

-- a slot that has the number has a row
pub spot_row : (side : Side) (queues : Queues) (id : ℕ) (rows : List (TableRow Cell)) → has_spot (spots_of queues (slots_in side rows)) id ≡ true → HasRow rows id
spot_row side queues id [] has = absurd (cc (has))
spot_row side queues id (row ∷ rows) has = grind (arith, nat_tests, spot_row side queues id rows)

-- a write leaves the slot's number
pub put_number : (point t : ℕ) (class : Class) (copy value : Option (List ℕ)) (slot : Slot) → (put_slot point t class copy value slot).number ≡ slot.number
put_number point t class copy value slot = grind arith

-- and its key
pub put_key : (point t : ℕ) (class : Class) (copy value : Option (List ℕ)) (slot : Slot) → (put_slot point t class copy value slot).key ≡ slot.key
put_key point t class copy value slot = grind arith

-- the spots where the slot of a number has changed, and kept its number
pub spots_changed : (f : Slot → Slot) (queues : Queues) (id : ℕ) → ((s : Slot) → (f s).number ≡ s.number) → (slots : List Slot) → spots_of queues (map (at_number f id) slots) ≡ map (at_spot (with_slot_changed f) id) (spots_of queues slots)
spots_changed f queues id keeps [] = refl
spots_changed f queues id keeps (s ∷ slots) = grind (arith, nat_tests, spots_changed f queues id keeps slots, keeps s)

-- the spots where the queue of a number has changed
pub spots_queued : (g : Queue → Queue) (id : ℕ) (queues new : Queues) → SetsAt queues new id (g (queue_at queues id)) → (slots : List Slot) → spots_of new slots ≡ map (at_spot (queued g) id) (spots_of queues slots)
spots_queued g id queues new sets [] = refl
spots_queued g id queues new sets (s ∷ slots) = grind (arith, nat_tests, spots_queued g id queues new sets slots, sets.this, sets.others s.number)

-- the spots where each queue is what it was
spots_alike : (queues new : Queues) → ((slot : ℕ) → queue_at new slot ≡ queue_at queues slot) → (slots : List Slot) → spots_of new slots ≡ spots_of queues slots
spots_alike queues new alike [] = refl
spots_alike queues new alike (s ∷ slots) = ap (λ (q : Queue). record { slot = s; queue = q } ∷ spots_of new slots) (alike s.number) ∙ ap (λ (xs : List Spot). spot_of queues s ∷ xs) (spots_alike queues new alike slots)

-- the queue at a slot that is there
pub queue_there : (queues : Queues) (id : ℕ) (slots : List Slot) → has_spot (spots_of queues slots) id ≡ true → queue_at_slot (spots_of queues slots) id ≡ queue_at queues id
queue_there queues id [] has = absurd (cc (has))
queue_there queues id (s ∷ slots) has = grind (arith, nat_tests, queue_there queues id slots)

-- a transaction waits somewhere as the rows have it
pub waits_alike : (t : ℕ) (queues : Queues) (slots : List Slot) → waits_anywhere (spots_of queues slots) t ≡ is_waiting_in_rows (rows_of queues slots) t
waits_alike t queues [] = refl
waits_alike t queues (s ∷ slots) = ap (λ b. is_ungranted (request_in (queue_at queues s.number) t) || b) (waits_alike t queues slots)

-- and as the locks do
pub waits_there : (side : Side) (rows : List (TableRow Cell)) (locks : keepers.KeptRequests) (t : ℕ) → AreSlotsKept (slots_in side rows) (queues_in rows locks) → keepers.AreEnds (ends_in rows) locks → waits_anywhere (spots_of (queues_in rows locks) (slots_in side rows)) t ≡ false
    → states.is_waiting_in_state (keepers.state_of (ends_in rows) locks) t ≡ false
waits_there side rows locks t kept ends none = waits_same (slots_in side rows) (queues_in rows locks) (keepers.lists_of locks) t ends.settled.linked kept ∙ sym (waits_alike t (queues_in rows locks) (slots_in side rows)) ∙ none

module _ (f : Slot → Slot) (id : ℕ) (table new : Contents Cell) (locks : keepers.KeptRequests) (sets : Dirty) (side : Side) (is : side ≡ sets.side) (keeps : (s : Slot) → (f s).number ≡ s.number) where
  -- the floor where one slot has changed
  pub floor_changed : slots_in side new.rows ≡ map (at_number f id) (slots_in side table.rows) → new.capacity ≡ table.capacity → ends_in new.rows ≡ ends_in table.rows → KeepSets table.rows new.rows → IsListed table.rows sets
      → floor_of new.capacity (queues_in new.rows locks) (slots_in sets.side new.rows) (open_keys new.rows sets) (closed_keys new.rows sets)
      ≡ with_spot (with_slot_changed f) id (floor_of table.capacity (queues_in table.rows locks) (slots_in sets.side table.rows) (open_keys table.rows sets) (closed_keys table.rows sets))
  floor_changed slots capacity ends keep listed =
      let here : slots_in sets.side new.rows ≡ map (at_number f id) (slots_in sets.side table.rows) = subst (λ (s : Side). slots_in s new.rows ≡ map (at_number f id) (slots_in s table.rows)) is slots in
      let spots : spots_of (queues_in new.rows locks) (slots_in sets.side new.rows) ≡ map (at_spot (with_slot_changed f) id) (spots_of (queues_in table.rows locks) (slots_in sets.side table.rows)) =
      ap (λ (e : ℕ → Chain ℕ). spots_of (keepers.queues_of e locks) (slots_in sets.side new.rows)) ends ∙ ap (spots_of (queues_in table.rows locks)) here ∙ spots_changed f (queues_in table.rows locks) id keeps (slots_in sets.side table.rows) in
      λ i. record {
        capacity = capacity i;
        spots = spots i;
        opened = (kept_open table.rows new.rows sets keep listed) i;
        closed = (kept_closed table.rows new.rows sets keep listed) i;
      }

-- a slot that its commit puts into the open set, as the sets have it
pub opens_there : (side : Side) (queues : Queues) (id : ℕ) (rows : List (TableRow Cell)) → entering side (in_slot rows id) ≡ newly_opened (spots_of queues (slots_in side rows)) id
opens_there side queues id [] = refl
opens_there side queues id (row ∷ rows) = elim (eqb row.1.0 id) as (λ b. entering side (cond b (Some (row.0, row.1.1)) (in_slot rows id)) ≡ cond b (cond (is_some (writer_in row.1.1) && not (is_marked side row.1.1)) (row.0 ∷ []) []) (newly_opened (spots_of queues (slots_in side rows)) id)) [ true ↦ refl | false ↦ opens_there side queues id rows ]

-- the floor if the write of one slot is committed
pub floor_settled : (point id : ℕ) (table new : Contents Cell) (locks : keepers.KeptRequests) (sets after : Dirty) → slots_in sets.side new.rows ≡ map (at_number (settled point) id) (slots_in sets.side table.rows) → new.capacity ≡ table.capacity → ends_in new.rows ≡ ends_in table.rows → after.side ≡ sets.side
    → open_keys new.rows after ≡ open_keys table.rows sets ++ entering sets.side (in_slot table.rows id) → closed_keys new.rows after ≡ closed_keys table.rows sets
    → floor_of new.capacity (queues_in new.rows locks) (slots_in after.side new.rows) (open_keys new.rows after) (closed_keys new.rows after)
    ≡ record (with_spot (with_slot_changed (settled point)) id (floor_of table.capacity (queues_in table.rows locks) (slots_in sets.side table.rows) (open_keys table.rows sets) (closed_keys table.rows sets))) { opened = open_keys table.rows sets ++ newly_opened (spots_of (queues_in table.rows locks) (slots_in sets.side table.rows)) id }
floor_settled point id table new locks sets after slots capacity ends side opened closed =
    let spots : spots_of (queues_in new.rows locks) (slots_in after.side new.rows) ≡ map (at_spot (with_slot_changed (settled point)) id) (spots_of (queues_in table.rows locks) (slots_in sets.side table.rows)) =
    ap (λ (e : ℕ → Chain ℕ). spots_of (keepers.queues_of e locks) (slots_in after.side new.rows)) ends ∙ ap (λ (s : Side). spots_of (queues_in table.rows locks) (slots_in s new.rows)) side ∙ ap (spots_of (queues_in table.rows locks)) slots ∙ spots_changed (settled point) (queues_in table.rows locks) id (settled_number point) (slots_in sets.side table.rows) in
    λ i. record {
      capacity = capacity i;
      spots = spots i;
      opened = (opened ∙ ap (λ (keys : List (List ℕ)). open_keys table.rows sets ++ keys) (opens_there sets.side (queues_in table.rows locks) id table.rows)) i;
      closed = closed i;
    }

-- the number of a key's slot, as the table has it
pub number_there : (side : Side) (queues : Queues) (key : List ℕ) (rows : List (TableRow Cell)) → table_slot rows key ≡ slot_number_of (spots_of queues (slots_in side rows)) key
number_there side queues key [] = refl
number_there side queues key (row ∷ rows) = elim (same_bytes key row.0) as (λ b. option_map (λ (place : ℕ × Cell). place.0) (cond b (Some row.1) (find key_cmp key rows)) ≡ cond b (Some row.1.0) (slot_number_of (spots_of queues (slots_in side rows)) key)) [ true ↦ refl | false ↦ number_there side queues key rows ]

-- a row has its slot
pub row_spot : (side : Side) (queues : Queues) (id : ℕ) (rows : List (TableRow Cell)) → HasRow rows id → has_spot (spots_of queues (slots_in side rows)) id ≡ true
row_spot side queues id [] has = absurd (cc (has))
row_spot side queues id (row ∷ rows) has = grind (arith, nat_tests, row_spot side queues id rows)

pub found_spot : (side : Side) (queues : Queues) (rows : List (TableRow Cell)) (r : Option ℕ) → IfSome r (HasRow rows) → IfSome r (λ id. has_spot (spots_of queues (slots_in side rows)) id ≡ true)
found_spot side queues rows (Some id) has = row_spot side queues id rows has
found_spot side queues rows None has = tt

-- the spots where every slot was closed
spots_closed : (queues : Queues) (slots : List Slot) → spots_of queues (map closed_slot slots) ≡ map (with_slot_changed closed_slot) (spots_of queues slots)
spots_closed queues [] = refl
spots_closed queues (s ∷ slots) = ap (λ (xs : List Spot). with_slot_changed closed_slot (spot_of queues s) ∷ xs) (spots_closed queues slots)

-- the open set was closed
module _ (rows : List (TableRow Cell)) (locks : keepers.KeptRequests) (sets new : Dirty) (kept : AreSlotsKept (slots_in sets.side rows) (queues_in rows locks)) (listed : IsListed rows sets) (none : closed_keys rows sets ≡ []) (side : new.side ≡ other_side sets.side)
    (turned : AreSets (HasPlace rows) (next_in rows) new [] (open_slots rows sets)) where
  turned_slots : slots_in new.side rows ≡ map closed_slot (slots_in sets.side rows)
  turned_slots = ap (λ (s : Side). slots_in s rows) side ∙ slots_turned rows sets listed none (queues_in rows locks) kept

  pub kept_turned : AreSlotsKept (slots_in new.side rows) (queues_in rows locks)
  kept_turned = kept_map closed_slot (slots_in sets.side rows) (slots_in new.side rows) (queues_in rows locks) turned_slots (λ s. refl) (λ s. refl) kept

  pub floor_closed : (capacity : ℕ) → floor_of capacity (queues_in rows locks) (slots_in new.side rows) (open_keys rows new) (closed_keys rows new)
      ≡ record (floor_of capacity (queues_in rows locks) (slots_in sets.side rows) (open_keys rows sets) (closed_keys rows sets)) { spots = map (with_slot_changed closed_slot) (spots_of (queues_in rows locks) (slots_in sets.side rows)); opened = []; closed = open_keys rows sets }
  floor_closed capacity = λ i. record {
    capacity = capacity;
    spots = (ap (spots_of (queues_in rows locks)) turned_slots ∙ spots_closed (queues_in rows locks) (slots_in sets.side rows)) i;
    opened = turned_open rows sets listed none new side turned i;
    closed = turned_closed rows sets listed none new side turned i;
  }

-- the floor where one queue has changed
floor_queued : (g : Queue → Queue) (id : ℕ) (table new : Contents Cell) (locks later : keepers.KeptRequests) (sets : Dirty) → KeepSlots table new → SetsAt (queues_in table.rows locks) (queues_in new.rows later) id (g (queue_at (queues_in table.rows locks) id)) → IsListed table.rows sets
    → floor_of new.capacity (queues_in new.rows later) (slots_in sets.side new.rows) (open_keys new.rows sets) (closed_keys new.rows sets)
    ≡ with_spot (queued g) id (floor_of table.capacity (queues_in table.rows locks) (slots_in sets.side table.rows) (open_keys table.rows sets) (closed_keys table.rows sets))
floor_queued g id table new locks later sets keep queues listed =
    let spots : spots_of (queues_in new.rows later) (slots_in sets.side new.rows) ≡ map (at_spot (queued g) id) (spots_of (queues_in table.rows locks) (slots_in sets.side table.rows)) =
    ap (spots_of (queues_in new.rows later)) (keep.slots sets.side) ∙ spots_queued g id (queues_in table.rows locks) (queues_in new.rows later) queues (slots_in sets.side table.rows) in
    λ i. record {
      capacity = keep.capacity i;
      spots = spots i;
      opened = (kept_open table.rows new.rows sets keep.sets listed) i;
      closed = (kept_closed table.rows new.rows sets keep.sets listed) i;
    }

-- what slots and queues keep, where one slot has changed
pub kept_changed : (f : Slot → Slot) (id : ℕ) (table new : Contents Cell) (locks : keepers.KeptRequests) (side here : Side) → side ≡ here → ((s : Slot) → (f s).number ≡ s.number) → ((s : Slot) → (f s).key ≡ s.key) → slots_in side new.rows ≡ map (at_number f id) (slots_in side table.rows) → ends_in new.rows ≡ ends_in table.rows
    → AreSlotsKept (slots_in here table.rows) (queues_in table.rows locks) → AreSlotsKept (slots_in here new.rows) (queues_in new.rows locks)
kept_changed f id table new locks side here is numbers keys slots ends kept =
    subst (λ (e : ℕ → Chain ℕ). AreSlotsKept (slots_in here new.rows) (keepers.queues_of e locks)) (sym ends)
    (kept_map (at_number f id) (slots_in here table.rows) (slots_in here new.rows) (queues_in table.rows locks) (subst (λ (s : Side). slots_in s new.rows ≡ map (at_number f id) (slots_in s table.rows)) is slots)
    (λ s. elim (eqb s.number id) as (λ b. (cond b (f s) s).key ≡ s.key) [ true ↦ keys s | false ↦ refl ]) (λ s. elim (eqb s.number id) as (λ b. (cond b (f s) s).number ≡ s.number) [ true ↦ numbers s | false ↦ refl ]) kept)

-- and if the queue of a slot that is there has changed
kept_queue : (id : ℕ) (q : Queue) (slots : List Slot) (queues new : Queues) → (times id (numbers_of slots) ≡ 0 → q ≡ []) → SetsAt queues new id q → AreSlotsKept slots queues → AreSlotsKept slots new
kept_queue id q slots queues new empty sets kept = record { rise = kept.rise; once = kept.once; bare = λ n none. by_test n (eqb n id) refl none (kept.bare n none) }
  where
    by_test : (n : ℕ) (b : Bool) → eqb n id ≡ b → times n (numbers_of slots) ≡ 0 → queue_at queues n ≡ [] → queue_at new n ≡ []
    by_test n true is none old =
        let same : n ≡ id = grind (arith, nat_tests, is) in
        ap (queue_at new) same ∙ sets.this ∙ empty (ap (λ m. times m (numbers_of slots)) (sym same) ∙ none)
    by_test n false is none old =
        let other : n ≢ id = λ same. grind (arith, nat_tests, is, same) in
        sets.others n other ∙ old

-- a slot that is there has its number
has_times : (queues : Queues) (id : ℕ) (slots : List Slot) → has_spot (spots_of queues slots) id ≡ true → times id (numbers_of slots) ≡ 0 → ⊥
has_times queues id [] has none = absurd (cc (has))
has_times queues id (s ∷ slots) has none = grind (arith, nat_tests, has_times queues id slots)

-- a transaction is at the spot of a slot in whose queue it is
stands_spot : (t id : ℕ) (queues : Queues) (slots : List Slot) → stands_in (queue_at queues id) t ≡ true → (times id (numbers_of slots) ≡ 0 → ⊥) → stands_at (spots_of queues slots) id t ≡ true
stands_spot t id queues [] stands some = absurd (some refl)
stands_spot t id queues (s ∷ slots) stands some = grind (arith, nat_tests, stands_spot t id queues slots stands)

-- and at none if it is in no queue
stands_at_none : (t : ℕ) (queues : Queues) (slots : List Slot) → ((n : ℕ) → stands_in (queue_at queues n) t ≡ false) → stands_anywhere (spots_of queues slots) t ≡ false
stands_at_none t queues [] none = refl
stands_at_none t queues (s ∷ slots) none = ap (λ b. b || stands_anywhere (spots_of queues slots) t) (none s.number) ∙ stands_at_none t queues slots none

module _ (t : ℕ) (table new : Contents Cell) (locks later : keepers.KeptRequests) (sets : Dirty) (kept : AreSlotsKept (slots_in sets.side table.rows) (queues_in table.rows locks)) (ends : keepers.AreEnds (ends_in table.rows) locks) (listed : IsListed table.rows sets) (keep : KeepSlots table new) where
  abbrev Gone : Option ℕ → Type 0
  Gone r = IfSome r (λ id. SetsAt (queues_in table.rows locks) (queues_in new.rows later) id (queue_without (queue_at (queues_in table.rows locks) id) t))

  abbrev Same : Option ℕ → Type 0
  Same r = IfNone r ((later ≡ locks) × (new ≡ table))

  pub kept_released : (r : Option ℕ) → Gone r → Same r → AreSlotsKept (slots_in sets.side new.rows) (queues_in new.rows later)
  kept_released (Some id) gone same = subst (λ (ss : List Slot). AreSlotsKept ss (queues_in new.rows later)) (sym (keep.slots sets.side)) (kept_queue id (queue_without (queue_at (queues_in table.rows locks) id) t) (slots_in sets.side table.rows) (queues_in table.rows locks) (queues_in new.rows later) (λ none. ap (λ q. queue_without q t) (kept.bare id none)) gone kept)
  kept_released None gone same = subst (λ (p : Contents Cell × keepers.KeptRequests). AreSlotsKept (slots_in sets.side p.0.rows) (queues_in p.0.rows p.1)) (λ i. (sym same.1 i, sym same.0 i)) kept

  pub released : (r : Option ℕ) → r ≡ first_in_list (slots_of (keepers.lists_of locks) t) → Gone r
      → IfSome r (λ id. (stands_at (spots_of (queues_in table.rows locks) (slots_in sets.side table.rows)) id t ≡ true) × (floor_of new.capacity (queues_in new.rows later) (slots_in sets.side new.rows) (open_keys new.rows sets) (closed_keys new.rows sets)
      ≡ with_spot (let_go t) id (floor_of table.capacity (queues_in table.rows locks) (slots_in sets.side table.rows) (open_keys table.rows sets) (closed_keys table.rows sets))))
  released None first gone = tt
  released (Some id) first gone =
      let stands = stands_first t id (queues_in table.rows locks) (keepers.lists_of locks) ends.settled.linked first in
      (stands_spot t id (queues_in table.rows locks) (slots_in sets.side table.rows) stands (slot_there t id (slots_in sets.side table.rows) (queues_in table.rows locks) kept stands), floor_queued (λ q. queue_without q t) id table new locks later sets keep gone listed)

  pub none_released_there : (r : Option ℕ) → r ≡ first_in_list (slots_of (keepers.lists_of locks) t) → Same r
      → IfNone r ((floor_of new.capacity (queues_in new.rows later) (slots_in sets.side new.rows) (open_keys new.rows sets) (closed_keys new.rows sets)
      ≡ floor_of table.capacity (queues_in table.rows locks) (slots_in sets.side table.rows) (open_keys table.rows sets) (closed_keys table.rows sets)) × (stands_anywhere (spots_of (queues_in table.rows locks) (slots_in sets.side table.rows)) t ≡ false))
  none_released_there (Some id) first same = tt
  none_released_there None first same = (
    λ i. floor_of (same.1 i).capacity (queues_in (same.1 i).rows (same.0 i)) (slots_in sets.side (same.1 i).rows) (open_keys (same.1 i).rows sets) (closed_keys (same.1 i).rows sets),
    stands_at_none t (queues_in table.rows locks) (slots_in sets.side table.rows) (stands_nowhere t (queues_in table.rows locks) (keepers.lists_of locks) ends.settled.linked first),
  )

module _ (t id : ℕ) (mode : Mode) (table new : Contents Cell) (locks later : keepers.KeptRequests) (sets : Dirty) (kept : AreSlotsKept (slots_in sets.side table.rows) (queues_in table.rows locks)) (listed : IsListed table.rows sets) (keep : KeepSlots table new) (there : has_spot (spots_of (queues_in table.rows locks) (slots_in sets.side table.rows)) id ≡ true) where
  abbrev Told : Outcome → Type 0
  Told answer = answer ≡ outcome (queue_at (queues_in table.rows locks) id) t mode

  abbrev Asks : Outcome → Type 0
  Asks answer = SetsAt (queues_in table.rows locks) (queues_in new.rows later) id (queue_after (queue_at (queues_in table.rows locks) id) t mode answer)

  abbrev Stays : {E : Type 0} → Result Outcome E → Type 0
  Stays r = OnErr r (states.AreAlike (keepers.state_of (ends_in new.rows) later) (keepers.state_of (ends_in table.rows) locks))

  pub asked_told : {E : Type 0} (r : Result Outcome E) → IfOk r Told → IfOk r (λ answer. answer ≡ outcome (queue_at_slot (spots_of (queues_in table.rows locks) (slots_in sets.side table.rows)) id) t mode)
  asked_told (Ok answer) told = told ∙ ap (λ q. outcome q t mode) (sym (queue_there (queues_in table.rows locks) id (slots_in sets.side table.rows) there))
  asked_told (Err e) told = tt

  pub asked_floor : {E : Type 0} (r : Result Outcome E) → IfOk r Asks → IfOk r (λ answer. floor_of new.capacity (queues_in new.rows later) (slots_in sets.side new.rows) (open_keys new.rows sets) (closed_keys new.rows sets)
      ≡ with_spot (asked t mode answer) id (floor_of table.capacity (queues_in table.rows locks) (slots_in sets.side table.rows) (open_keys table.rows sets) (closed_keys table.rows sets)))
  asked_floor (Ok answer) asks = floor_queued (λ q. queue_after q t mode answer) id table new locks later sets keep asks listed
  asked_floor (Err e) asks = tt

  pub unasked_floor : {E : Type 0} (r : Result Outcome E) → Stays r → OnErr r (floor_of new.capacity (queues_in new.rows later) (slots_in sets.side new.rows) (open_keys new.rows sets) (closed_keys new.rows sets)
      ≡ floor_of table.capacity (queues_in table.rows locks) (slots_in sets.side table.rows) (open_keys table.rows sets) (closed_keys table.rows sets))
  unasked_floor (Ok answer) stays = tt
  unasked_floor (Err e) stays =
      let spots : spots_of (queues_in new.rows later) (slots_in sets.side new.rows) ≡ spots_of (queues_in table.rows locks) (slots_in sets.side table.rows) =
      ap (spots_of (queues_in new.rows later)) (keep.slots sets.side) ∙ spots_alike (queues_in table.rows locks) (queues_in new.rows later) stays.queues (slots_in sets.side table.rows) in
      λ i. record {
        capacity = keep.capacity i;
        spots = spots i;
        opened = (kept_open table.rows new.rows sets keep.sets listed) i;
        closed = (kept_closed table.rows new.rows sets keep.sets listed) i;
      }

  pub asked_kept : {E : Type 0} (r : Result Outcome E) → IfOk r Asks → Stays r → AreSlotsKept (slots_in sets.side new.rows) (queues_in new.rows later)
  asked_kept (Ok answer) asks stays =
      subst (λ (ss : List Slot). AreSlotsKept ss (queues_in new.rows later)) (sym (keep.slots sets.side))
      (kept_queue id (queue_after (queue_at (queues_in table.rows locks) id) t mode answer) (slots_in sets.side table.rows) (queues_in table.rows locks) (queues_in new.rows later) (λ none. absurd (has_times (queues_in table.rows locks) id (slots_in sets.side table.rows) there none)) asks kept)
  asked_kept (Err e) asks stays =
      subst (λ (ss : List Slot). AreSlotsKept ss (queues_in new.rows later)) (sym (keep.slots sets.side))
      (record { rise = kept.rise; once = kept.once; bare = λ n none. stays.queues n ∙ kept.bare n none })
