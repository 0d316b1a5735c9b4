-- What a table keeps, and what its calls give of it.
use Rattle.std.proofs.Common.{◌≡◌, ℕ, suc, ◌+◌, ◌<◌, ◌≤◌, ◌==◌, List, [], ◌∷◌, length, set, Option, Some, None, option_map, is_some, true, Result, Ok, Err, refl, sym, ap, subst, ◌∙◌, length-set}
use Rattle.std.specs.Prelude.{IfOk, IfSome, OnErr}
use Rattle.std.specs.FinMap.{find}
use Rattle.pc_types.specs.declared.refusal.Refusal.{Refusal}
use Rattle.pc_types.specs.declared.limits.TheConstants.{MOST_KEYS}
use Rattle.pc_model.specs.Database.{key_cmp, same_bytes}
use Rattle.pc_model.proofs.JoinLaws.{one_key}
use Rattle.pc_chain.specs.Slots.{Slots, at, is_full, with_item, IsTaken, AllFree}
use Rattle.pc_chain.proofs.SlotLaws.{at_here, taken_below}
use Rattle.pc_index.specs.Indexes.{IndexView, IsIndex}
use Rattle.pc_index.specs.Keys.{key_at, IsAbsent, IsSlotOf, IsRecordMade}
use Rattle.pc_index.proofs.IndexLaws.{index_kept, keys_set}
use Rattle.pc_table.specs.declared.entry.TableEntry.{TableEntry}
use Rattle.pc_table.specs.Rows.{Contents, slot_of, in_slot, with_record, with_row, without_slot, HasRow, IsNewSlot, AreInSlots}
use Rattle.pc_table.specs.Entries.{key_in, entry_of, rows_from, contents_of, AreEntriesKept}
use Rattle.pc_table.proofs.RowLaws.{no_row, same_some, record_put, put_again}
use Rattle.pc_table.proofs.Seen.{found_looked, none_looked, at_found, seen_at, pair_in, in_slots}
use Rattle.pc_table.proofs.Changing.{contents_set, contents_cleared, full_rows}

-- an entry whose key is known
key_entry : {T : Type 0} (key : List ℕ) (o : Option (TableEntry T)) → option_map key_in o ≡ Some key → (entry : TableEntry T) × (o ≡ Some entry) × (entry.key ≡ key)
key_entry key None e = absurd (no_row e)
key_entry key (Some entry) e = (entry, refl, same_some e)

is_mapped : {X Y : Type 0} (f : X → Y) (o : Option X) → is_some (option_map f o) ≡ is_some o
is_mapped f None = refl
is_mapped f (Some x) = refl

pub if_ok : (P Q : ℕ → Type 0) (r : Result ℕ Refusal) → ((id : ℕ) → P id → Q id) → IfOk r P → IfOk r Q
if_ok P Q (Ok id) f p = f id p
if_ok P Q (Err why) f p = tt

module _ {T : Type 0} (slots : Slots (TableEntry T)) (by_key : IndexView) (table : Contents T) (seen : contents_of slots.items ≡ table) (k : AreEntriesKept slots by_key) where
  pub kept_slots : AreInSlots table
  kept_slots = subst AreInSlots seen (in_slots slots by_key k)

  seen_slot : (id : ℕ) → in_slot table.rows id ≡ option_map (pair_in slots.items k.index.distinct) (at slots.items id)
  seen_slot id = ap (λ (t : Contents T). in_slot t.rows id) (sym seen) ∙ seen_at slots.items k.index.distinct id

  pub taken_of : (id : ℕ) → HasRow table.rows id → IsTaken slots.items id
  taken_of id h = sym (is_mapped (pair_in slots.items k.index.distinct) (at slots.items id)) ∙ (sym (ap is_some (seen_slot id)) ∙ h)

  -- the entry of a slot is its row
  pub row_of : (id : ℕ) (entry : TableEntry T) → at slots.items id ≡ Some entry → in_slot table.rows id ≡ Some (entry.key, entry.item)
  row_of id entry e = seen_slot id ∙ ap (option_map (pair_in slots.items k.index.distinct)) e

  pub no_row_of : (id : ℕ) → at slots.items id ≡ None → in_slot table.rows id ≡ None
  no_row_of id e = seen_slot id ∙ ap (option_map (pair_in slots.items k.index.distinct)) e

  pub full_of : is_full slots.items ≡ (length table.rows == table.capacity)
  full_of = full_rows slots.items k.index.distinct ∙ ap (λ (t : Contents T). length t.rows == t.capacity) seen

  -- a key that a slot has is found
  pub key_slot : (key : List ℕ) (id : ℕ) → key_at key_in slots.items id ≡ Some key → slot_of table.rows key ≡ Some id
  key_slot key id e =
      let h = key_entry key (at slots.items id) e in
      ap (λ (t : Contents T). slot_of t.rows key) (sym seen) ∙ (ap (slot_of (rows_from 0 slots.items)) (sym h.2) ∙ ap (option_map (λ (place : ℕ × T). place.0)) (at_found slots.items k.index.distinct id h.0 h.1))

  pub slot_absent : (key : List ℕ) → slot_of table.rows key ≡ None → IsAbsent key_in slots.items key
  slot_absent key e id h = no_row (sym e ∙ key_slot key id h)

  absent_slot : (key : List ℕ) → IsAbsent key_in slots.items key → slot_of table.rows key ≡ None
  absent_slot key a = ap (λ (t : Contents T). slot_of t.rows key) (sym seen) ∙ ap (option_map (λ (place : ℕ × T). place.0)) (found_looked key 0 slots.items ∙ none_looked key 0 slots.items a)

  -- a slot that the index finds is the key's
  pub found_slot : (key : List ℕ) (found : Option ℕ) → IsSlotOf key_in slots.items key found → found ≡ slot_of table.rows key
  found_slot key None s = sym (absent_slot key (λ id h. no_row ((s id).1 h)))
  found_slot key (Some id) s = sym (key_slot key id ((s id).0 refl))

  key_taken : (key : List ℕ) (id : ℕ) → key_at key_in slots.items id ≡ Some key → HasRow table.rows id
  key_taken key id e = let h = key_entry key (at slots.items id) e in ap is_some (row_of id h.0 h.1)

  pub found_row : (key : List ℕ) (found : Option ℕ) → IsSlotOf key_in slots.items key found → IfSome found (HasRow table.rows)
  found_row key None s = tt
  found_row key (Some id) s = key_taken key id ((s id).0 refl)

  -- the record in a slot is another one
  pub kept_changed : (id : ℕ) (entry : TableEntry T) (x : T) → at slots.items id ≡ Some entry → AreEntriesKept (with_item slots id (Some (entry_of entry.key x))) by_key
  kept_changed id entry x e = record {
    index = index_kept key_in slots (with_item slots id (Some (entry_of entry.key x))) by_key (keys_set key_in slots.items id entry (entry_of entry.key x) e refl) (λ y. refl) k.index;
    most = subst (λ (n : ℕ). n ≤ MOST_KEYS) (sym (length-set slots.items id (Some (entry_of entry.key x)))) k.most;
  }

  pub seen_changed : (id : ℕ) (entry : TableEntry T) (x : T) → at slots.items id ≡ Some entry → contents_of (set slots.items id (Some (entry_of entry.key x))) ≡ with_record table id x
  seen_changed id entry x e =
      let here : key_at key_in slots.items id ≡ Some entry.key = ap (option_map key_in) e in
      contents_set slots.items id (entry_of entry.key x) (taken_below slots.items id (ap is_some e)) (λ j h. k.index.distinct j id entry.key h here) (λ l h. same_some (sym h ∙ here))
      ∙ (ap (λ (t : Contents T). with_row t entry.key id x) seen ∙ sym (record_put table entry.key id kept_slots (key_slot entry.key id here) x))

  -- a record that is made for a key that has no row
  pub seen_made : (items : List (Option (TableEntry T))) (key : List ℕ) (id : ℕ) (x : T) → slot_of table.rows key ≡ None → IsRecordMade (entry_of key x) slots.items items id → contents_of items ≡ with_row table key id x
  seen_made items key id x e m =
      let gone = slot_absent key e in
      ap contents_of m.1
      ∙ (contents_set slots.items id (entry_of key x) m.0.0 (λ j h. absurd (gone j h)) (λ l h. absurd (no_row (sym (ap (option_map key_in) m.0.1) ∙ h))) ∙ ap (λ (t : Contents T). with_row t key id x) seen)

  pub slot_made : (items : List (Option (TableEntry T))) (id : ℕ) (entry : TableEntry T) → IsRecordMade entry slots.items items id → IsNewSlot table id
  slot_made items id entry m = (subst (λ (t : Contents T). id < t.capacity) seen m.0.0, no_row_of id m.0.1)

  -- after a call that makes a slot of the key, which had none: nothing has changed, or a record has been made
  data Outcome (x : T) (key : List ℕ) (new : Slots (TableEntry T)) (result : Result ℕ Refusal) : Type 0 where
    same : (why : Refusal) → result ≡ Err why → new ≡ slots → Outcome x key new result
    made : (id : ℕ) → result ≡ Ok id → slot_of table.rows key ≡ None → IsRecordMade (entry_of key x) slots.items new.items id → Outcome x key new result

  module _ (x : T) (key : List ℕ) (new : Slots (TableEntry T)) (new_key : IndexView) (result : Result ℕ Refusal) where
    outcome : IsAbsent key_in slots.items key → IfOk result (λ id. IsRecordMade (entry_of key x) slots.items new.items id) → OnErr result ((new ≡ slots) × (new_key ≡ by_key)) → Outcome x key new result
    outcome gone m e = by result refl
      where
        by : (r : Result ℕ Refusal) → result ≡ r → Outcome x key new result
        by (Ok id) t = made id t (absent_slot key gone) (subst (λ (r : Result ℕ Refusal). IfOk r (λ id. IsRecordMade (entry_of key x) slots.items new.items id)) t m)
        by (Err why) t = same why t (subst (λ (r : Result ℕ Refusal). OnErr r ((new ≡ slots) × (new_key ≡ by_key))) t e).0

    same_length : Outcome x key new result → length new.items ≡ length slots.items
    same_length (same why r e) = ap (λ (s : Slots (TableEntry T)). length s.items) e
    same_length (made id r s m) = ap length m.1 ∙ length-set slots.items id (Some (entry_of key x))

    slot_after : AreEntriesKept new new_key → Outcome x key new result → IfOk result (λ id. slot_of (contents_of new.items).rows key ≡ Some id)
    slot_after n (same why r e) = subst (λ (r : Result ℕ Refusal). IfOk r (λ id. slot_of (contents_of new.items).rows key ≡ Some id)) (sym r) tt
    slot_after n (made id r s m) =
        let here : at new.items id ≡ Some (entry_of key x) = ap (λ (is : List (Option (TableEntry T))). at is id) m.1 ∙ at_here slots.items id (Some (entry_of key x)) m.0.0 in
        subst (λ (r : Result ℕ Refusal). IfOk r (λ id. slot_of (contents_of new.items).rows key ≡ Some id)) (sym r) (ap (option_map (λ (place : ℕ × T). place.0)) (at_found new.items n.index.distinct id (entry_of key x) here))

    -- whatever record the slot then gets, it is that of the key
    changed_after : AreEntriesKept new new_key → Outcome x key new result → IfOk result (λ id. slot_of (contents_of new.items).rows key ≡ Some id) → IfOk result (λ id. (y : T) → with_record (contents_of new.items) id y ≡ with_row table key id y)
    changed_after n (same why r e) there = subst (λ (r : Result ℕ Refusal). IfOk r (λ id. (y : T) → with_record (contents_of new.items) id y ≡ with_row table key id y)) (sym r) tt
    changed_after n (made id r s m) there =
        let slot : slot_of (contents_of new.items).rows key ≡ Some id = subst (λ (r : Result ℕ Refusal). IfOk r (λ id. slot_of (contents_of new.items).rows key ≡ Some id)) r there in
        subst (λ (r : Result ℕ Refusal). IfOk r (λ id. (y : T) → with_record (contents_of new.items) id y ≡ with_row table key id y)) (sym r)
        (λ y. record_put (contents_of new.items) key id (in_slots new new_key n) slot y ∙ (ap (λ (t : Contents T). with_row t key id y) (seen_made new.items key id x s m) ∙ put_again table key id id x y kept_slots.rise))

    -- what such a call keeps, and what it gives
    pub record AfterCall : Type 0 where
      pub kept : AreEntriesKept new new_key
      pub slot : IfOk result (λ id. slot_of (contents_of new.items).rows key ≡ Some id)
      pub changed : IfOk result (λ id. (y : T) → with_record (contents_of new.items) id y ≡ with_row table key id y)

    pub after_made : IsAbsent key_in slots.items key → IfOk result (λ id. IsRecordMade (entry_of key x) slots.items new.items id) → OnErr result ((new ≡ slots) × (new_key ≡ by_key)) → IsIndex key_in new new_key → AfterCall
    after_made gone m e i =
        let o = outcome gone m e in
        let n : AreEntriesKept new new_key = record { index = i; most = subst (λ (l : ℕ). l ≤ MOST_KEYS) (sym (same_length o)) k.most } in
        let there = slot_after n o in
        record { kept = n; slot = there; changed = changed_after n o there }

  pub kept_removed : (id : ℕ) (new : Slots (TableEntry T)) (new_key : IndexView) → new.items ≡ set slots.items id None → IsIndex key_in new new_key → AreEntriesKept new new_key
  kept_removed id new new_key e i = record { index = i; most = subst (λ (n : ℕ). n ≤ MOST_KEYS) (sym (ap length e ∙ length-set slots.items id None)) k.most }

  pub seen_removed : (id : ℕ) (entry : TableEntry T) → at slots.items id ≡ Some entry → contents_of (set slots.items id None) ≡ without_slot table id
  seen_removed id entry e = contents_cleared slots by_key id entry k e ∙ ap (λ (t : Contents T). without_slot t id) seen

-- no slot is taken yet
pub seen_begun : {T : Type 0} (items : List (Option (TableEntry T))) (capacity : ℕ) → length items ≡ capacity → AllFree items → contents_of items ≡ record { capacity = capacity; rows = [] }
seen_begun items capacity l f = λ i. record { capacity = l i; rows = bare 0 items f i }
  where
    bare : {T : Type 0} (n : ℕ) (items : List (Option (TableEntry T))) → AllFree items → rows_from n items ≡ []
    bare n [] f = refl
    bare n (None ∷ items) f = bare (n + 1) items (λ id. f (suc id))
    bare n (Some entry ∷ items) f = absurd (no_row (sym (f 0)))

-- the slot in which the key is found is the key's
pub own_slot : {T : Type 0} (table : Contents T) (id : ℕ) (key found : List ℕ) (x : T) → AreInSlots table → in_slot table.rows id ≡ Some (found, x) → same_bytes found key ≡ true → (slot_of table.rows key ≡ Some id) × HasRow table.rows id
own_slot table id key found x slots here e =
    (ap (option_map (λ place. place.0)) (subst (λ k. find key_cmp k table.rows ≡ Some (id, x)) (one_key found key e) ((slots.each id found x).0 here)), ap is_some here)
