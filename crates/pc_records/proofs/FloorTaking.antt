-- The floor of slots, once the first key of the closed set was taken.
use Rattle.std.proofs.Common.{◌≡◌, ℕ, List, [], ◌∷◌, length, map, Option, Some, None, refl, sym, ap, ◌∙◌, subst, cond, true, false}
use Rattle.std.proofs.lemmas.List.{length-map}
use Rattle.pc_model.specs.Database.{same_bytes}
use Rattle.pc_locks.specs.States.{Queues}
use Rattle.pc_chain.specs.Chains.{first_of, rest_of}
use Rattle.pc_chain.specs.declared.chain.Chain.{Chain}
use Rattle.pc_locks.specs.Keepers as keepers
use Rattle.pc_dirty.specs.declared.side.Side.{Side}
use Rattle.pc_dirty.specs.declared.dirty.Dirty.{Dirty}
use Rattle.pc_dirty.specs.Sets.{other_side, AreSets}
use Rattle.pc_table.specs.Rows.{TableRow, Contents, AreInSlots, in_slot}
use Rattle.pc_slots.specs.declared.cells.Cell.{Cell}
use Rattle.pc_slots.specs.Slots.{Slot, taken_slot, pinned}
use Rattle.pc_records.specs.Ends.{ends_in, queues_in}
use Rattle.pc_records.specs.Slots.{slots_in, at_number, row_of, rows_of, AreSlotsKept}
use Rattle.pc_records.specs.Rows.{record_of, at_point}
use Rattle.pc_records.specs.Tables.{first_pinned}
use Rattle.pc_records.specs.SetLists.{HasPlace, next_in, marked_in, key_in, keys_at, AreSetLists, IsUnmarked, IsListed, open_slots, closed_slots, open_keys, closed_keys}
use Rattle.pc_records.specs.Floor.{spots_of, floor_of, at_spot, with_slot_changed, TakesFirstSpot, content_at_point, first_of_closed}
use Rattle.pc_records.proofs.FloorLaws.{number_there, spots_changed, kept_changed}
use Rattle.pc_records.proofs.KeepingSets.{sets_same}
use Rattle.pc_records.proofs.Leaving.{first_slot, left_listed, left_open, left_closed}
use Rattle.pc_records.proofs.Listing.{named, open_keys_named, closed_keys_named}

firsts : (rows : List (TableRow Cell)) (slots : List ℕ) (id : ℕ) → Some id ≡ first_of slots → keys_at rows slots ≡ key_in (in_slot rows id) ∷ keys_at rows (rest_of slots)
firsts rows [] id e = absurd cc
firsts rows (x ∷ xs) id e = ap (λ n. key_in (in_slot rows n) ∷ keys_at rows xs) (same e)
  where
    same : Some id ≡ Some x → x ≡ id
    same e = cc

module _ (table : Contents Cell) (locks : keepers.KeptRequests) (sets now : Dirty) (kept : AreSlotsKept (slots_in sets.side table.rows) (queues_in table.rows locks)) (listed : IsListed table.rows sets) (side : now.side ≡ sets.side)
    (popped : AreSets (HasPlace table.rows) (next_in table.rows) now (open_slots table.rows sets) (rest_of (closed_slots table.rows sets))) where
  module _ (id : ℕ) (first : Some id ≡ first_of (closed_slots table.rows sets)) (marked : Contents Cell) (here : Side) (is : here ≡ sets.side) (unmarked : IsUnmarked here id table.rows marked.rows) (slots : slots_in here marked.rows ≡ map (at_number taken_slot id) (slots_in here table.rows)) (ends : ends_in marked.rows ≡ ends_in table.rows) where
    unmarked_here : IsUnmarked sets.side id table.rows marked.rows
    unmarked_here = subst (λ (s : Side). IsUnmarked s id table.rows marked.rows) is unmarked

    pub kept_taken : AreSlotsKept (slots_in now.side marked.rows) (queues_in marked.rows locks)
    kept_taken =
        subst (λ (s : Side). AreSlotsKept (slots_in s marked.rows) (queues_in marked.rows locks)) (sym side)
        (kept_changed taken_slot id table marked locks here sets.side is (λ s. refl) (λ s. refl) slots ends kept)

    pub ends_taken : keepers.AreEnds (ends_in table.rows) locks → keepers.AreEnds (ends_in marked.rows) locks
    ends_taken are = subst (λ (e : ℕ → Chain ℕ). keepers.AreEnds e locks) (sym ends) are

    pub listed_taken : IsListed marked.rows now
    listed_taken = left_listed table sets listed id first now side popped marked.rows marked.rows unmarked_here (sets_same marked.rows)

    first_keys : closed_keys table.rows sets ≡ key_in (in_slot table.rows id) ∷ keys_at table.rows (rest_of (closed_slots table.rows sets))
    first_keys = firsts table.rows (closed_slots table.rows sets) id first

    spots : spots_of (queues_in marked.rows locks) (slots_in now.side marked.rows) ≡ map (at_spot (with_slot_changed taken_slot) id) (spots_of (queues_in table.rows locks) (slots_in sets.side table.rows))
    spots =
        ap (λ (e : ℕ → Chain ℕ). spots_of (keepers.queues_of e locks) (slots_in now.side marked.rows)) ends ∙ ap (λ (s : Side). spots_of (queues_in table.rows locks) (slots_in s marked.rows)) side
        ∙ ap (spots_of (queues_in table.rows locks)) (subst (λ (s : Side). slots_in s marked.rows ≡ map (at_number taken_slot id) (slots_in s table.rows)) is slots)
        ∙ spots_changed taken_slot (queues_in table.rows locks) id (λ s. refl) (slots_in sets.side table.rows)

    pub floor_taken : AreInSlots table → marked.capacity ≡ table.capacity → TakesFirstSpot (floor_of table.capacity (queues_in table.rows locks) (slots_in sets.side table.rows) (open_keys table.rows sets) (closed_keys table.rows sets))
        (floor_of marked.capacity (queues_in marked.rows locks) (slots_in now.side marked.rows) (open_keys marked.rows now) (closed_keys marked.rows now)) id
    floor_taken in_slots capacity = record {
      key = key_in (in_slot table.rows id);
      keys = keys_at table.rows (rest_of (closed_slots table.rows sets));
      first = first_keys;
      found = sym (number_there sets.side (queues_in table.rows locks) (key_in (in_slot table.rows id)) table.rows) ∙ first_slot table sets listed id first in_slots (key_in (in_slot table.rows id)) (keys_at table.rows (rest_of (closed_slots table.rows sets))) first_keys;
      taken = λ i. record {
        capacity = capacity i;
        spots = spots i;
        opened = left_open table sets listed id first now side popped marked.rows marked.rows unmarked_here (sets_same marked.rows) i;
        closed = left_closed table sets listed id first now side popped marked.rows marked.rows unmarked_here (sets_same marked.rows) (key_in (in_slot table.rows id)) (keys_at table.rows (rest_of (closed_slots table.rows sets))) first_keys i;
      };
    }

  module _ (none : None ≡ first_of (closed_slots table.rows sets)) where
    no_first : (slots : List ℕ) → None ≡ first_of slots → (rest_of slots ≡ slots) × (slots ≡ [])
    no_first [] e = (refl, refl)
    no_first (x ∷ xs) e = absurd cc

    lists : AreSetLists table.rows now (open_slots table.rows sets) (closed_slots table.rows sets)
    lists = record {
      linked = subst (λ (xs : List ℕ). AreSets (HasPlace table.rows) (next_in table.rows) now (open_slots table.rows sets) xs) (no_first (closed_slots table.rows sets) none).0 popped;
      open_marks = λ slot. ap (λ s. marked_in s (in_slot table.rows slot)) side ∙ listed.open_marks slot;
      closed_marks = λ slot. ap (λ s. marked_in (other_side s) (in_slot table.rows slot)) side ∙ listed.closed_marks slot;
    }

    pub kept_none : AreSlotsKept (slots_in now.side table.rows) (queues_in table.rows locks)
    kept_none = subst (λ (s : Side). AreSlotsKept (slots_in s table.rows) (queues_in table.rows locks)) (sym side) kept

    pub listed_none : IsListed table.rows now
    listed_none = named table.rows now (open_slots table.rows sets) (closed_slots table.rows sets) lists

    pub closed_none : closed_keys table.rows sets ≡ []
    closed_none = ap (keys_at table.rows) (no_first (closed_slots table.rows sets) none).1

    pub floor_none : floor_of table.capacity (queues_in table.rows locks) (slots_in now.side table.rows) (open_keys table.rows now) (closed_keys table.rows now)
        ≡ floor_of table.capacity (queues_in table.rows locks) (slots_in sets.side table.rows) (open_keys table.rows sets) (closed_keys table.rows sets)
    floor_none = λ i. floor_of table.capacity (queues_in table.rows locks) (slots_in (side i) table.rows) (open_keys_named table.rows now (open_slots table.rows sets) (closed_slots table.rows sets) lists i) (closed_keys_named table.rows now (open_slots table.rows sets) (closed_slots table.rows sets) lists i)

-- what a key has at the point, as its row has it
row_content : (queues : Queues) (slots : List Slot) (key : List ℕ) → at_point (record_of (rows_of queues slots) key) ≡ content_at_point (spots_of queues slots) key
row_content queues [] key = refl
row_content queues (s ∷ slots) key = elim (same_bytes key s.key) as (λ b. at_point (cond b (Some (row_of queues s).1) (record_of (rows_of queues slots) key)) ≡ cond b (pinned s) (content_at_point (spots_of queues slots) key)) [ true ↦ refl | false ↦ row_content queues slots key ]

pub first_is : (queues : Queues) (slots : List Slot) (keys : List (List ℕ)) → first_pinned (rows_of queues slots) keys ≡ first_of_closed (spots_of queues slots) keys
first_is queues slots [] = refl
first_is queues slots (key ∷ keys) = ap (λ (content : Option (List ℕ)). Some (key, content)) (row_content queues slots key)

-- there are as many keys in the closed set as slots
pub closed_counted : (rows : List (TableRow Cell)) (sets : Dirty) → length (closed_keys rows sets) ≡ length (closed_slots rows sets)
closed_counted rows sets = length-map (closed_slots rows sets) (λ slot. key_in (in_slot rows slot))
