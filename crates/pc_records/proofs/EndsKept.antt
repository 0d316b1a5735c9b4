-- The ends of the slots' queues, where a record is changed, goes in, or goes, and what the locks keep besides them.
use Rattle.std.proofs.Common.{◌≡◌, ◌≢◌, ◌⊎◌, inl, inr, ℕ, List, [], ◌∷◌, map, Option, Some, None, option_map, is_some, refl, sym, ap, ◌∙◌, subst, cond, Bool, true, false, eqb, arith}
use Rattle.std.proofs.lemmas.Bool.{eqb-true, eq-eqb}
use Rattle.pc_chain.specs.declared.chain.Chain.{Chain}
use Rattle.pc_chain.specs.Chains.{IsEmpty}
use Rattle.pc_locks.specs.States.{queue_at}
use Rattle.pc_locks.specs.Keepers.{AreEnds, DifferWhereNone}
use Rattle.pc_locks.proofs.KeeperLaws.{other_ends, other_state}
use Rattle.pc_table.specs.Rows.{TableRow, Contents, in_slot, slot_of as table_slot, with_record_in, with_row, without_slot, IsNewSlot, AreInSlots}
use Rattle.pc_table.proofs.RowLaws.{same_some}
use Rattle.pc_slots.specs.declared.cells.Cell.{Cell}
use Rattle.pc_slots.specs.Words.{chain_in, cell_words, with_ends}
use Rattle.pc_slots.specs.Slots.{Slot, slot_with, base_cell}
use Rattle.pc_records.specs.Slots.{slots_in, cells_in, base_row, at_number}
use Rattle.pc_records.specs.Ends.{ends_of, ends_in, queues_in, KeepSlots}
use Rattle.pc_records.proofs.InSlots.{changed_in, in_changed, in_put, in_left, cell_there}
use Rattle.pc_records.proofs.TableSlots.{no_find, changed_slots}
use Rattle.pc_records.proofs.KeepingSets.{changed_sets}
use Rattle.pc_records.proofs.BlankSlots.{first_cell, other_cells}
use Rattle.pc_locks.specs.Keepers as keepers

-- if each slot has the same ends
each_same : (rows new : List (TableRow Cell)) → ((slot : ℕ) → ends_in new slot ≡ ends_in rows slot) → ends_in new ≡ ends_in rows
each_same rows new h = λ i slot. h slot i

-- a record whose ends stay
pub ends_changed : (rows : List (TableRow Cell)) (id : ℕ) (x y : Cell) → option_map (λ pair. pair.1) (in_slot rows id) ≡ Some x → chain_in y ≡ chain_in x → ends_in (map (with_record_in id y) rows) ≡ ends_in rows
ends_changed rows id x y has same = each_same rows (map (with_record_in id y) rows) (λ slot. ap ends_of (in_changed id y rows slot) ∙ by_test slot (eqb slot id) refl (in_slot rows slot) refl)
  where
    by_test : (slot : ℕ) (b : Bool) → eqb slot id ≡ b → (o : Option (List ℕ × Cell)) → in_slot rows slot ≡ o → ends_of (option_map (λ p. (p.0, cond b y p.1)) o) ≡ ends_of o
    by_test slot b is None e = refl
    by_test slot false is (Some p) e = refl
    by_test slot true is (Some p) e =
        let here : Some p.1 ≡ Some x = sym (ap (option_map (λ (pair : List ℕ × Cell). pair.1)) e) ∙ (ap (λ m. option_map (λ (pair : List ℕ × Cell). pair.1) (in_slot rows m)) (eqb-true slot id is) ∙ has) in
        same ∙ ap chain_in (sym (same_some here))

-- a row that goes in, of a key that has nothing yet
pub ends_with : (old new : Contents Cell) (key : List ℕ) (id : ℕ) (content : Option (List ℕ)) → table_slot old.rows key ≡ None → IsNewSlot old id → new ≡ with_row old key id (base_cell content) → ends_in new.rows ≡ ends_in old.rows
ends_with old new key id content none fresh made =
    each_same old.rows new.rows (λ slot. ap (λ (t : Contents Cell). ends_of (in_slot t.rows slot)) made ∙ (ap ends_of (in_put key id (base_cell content) old.rows slot (no_find old.rows key none) fresh.1) ∙ by_test slot (eqb id slot) refl))
  where
    by_test : (slot : ℕ) (b : Bool) → eqb id slot ≡ b → ends_of (cond b (Some (key, base_cell content)) (in_slot old.rows slot)) ≡ ends_of (in_slot old.rows slot)
    by_test slot true is = ap ends_of (sym fresh.1 ∙ ap (in_slot old.rows) (eqb-true id slot is))
    by_test slot false is = refl

-- slots of keys that have their values alone
pub ends_first : (rows : List (TableRow Cell)) (pairs : List (List ℕ × List ℕ)) → cells_in rows ≡ map base_row pairs → (slot : ℕ) → IsEmpty (ends_in rows slot)
ends_first [] ps e slot = (refl, refl)
ends_first (r ∷ rs) [] e slot = absurd cc
ends_first (r ∷ rs) (p ∷ ps) e slot = by_test (eqb r.1.0 slot) (ends_first rs ps (other_cells r rs p ps e) slot)
  where
    by_test : (b : Bool) → IsEmpty (ends_in rs slot) → IsEmpty (ends_of (cond b (Some (r.0, r.1.1)) (in_slot rs slot)))
    by_test true rest = subst (λ (c : Cell). IsEmpty (chain_in c)) (sym (first_cell r rs p ps e)) (refl, refl)
    by_test false rest = rest

-- a row that goes, whose queue is empty
module _ (old new : Contents Cell) (id : ℕ) (gone : new ≡ without_slot old id) (locks : keepers.KeptRequests) (empty : queue_at (queues_in old.rows locks) id ≡ []) where
  differ : DifferWhereNone (ends_in old.rows) (ends_in new.rows) locks
  differ slot = by_test (eqb id slot) refl (ap (λ (t : Contents Cell). ends_in t.rows slot) gone ∙ ap ends_of (in_left id old.rows slot))
    where
      by_test : (b : Bool) → eqb id slot ≡ b → ends_in new.rows slot ≡ ends_of (cond b None (in_slot old.rows slot)) → (ends_in new.rows slot ≡ ends_in old.rows slot) ⊎ ((queue_at (queues_in old.rows locks) slot ≡ []) × IsEmpty (ends_in new.rows slot))
      by_test true is left = inr (ap (queues_in old.rows locks) (sym (eqb-true id slot is)) ∙ empty, subst IsEmpty (sym left) (refl, refl))
      by_test false is left = inl left

  pub ends_left : AreEnds (ends_in old.rows) locks → AreEnds (ends_in new.rows) locks
  ends_left a = other_ends (ends_in old.rows) (ends_in new.rows) locks differ a

  pub queues_left : queues_in new.rows locks ≡ queues_in old.rows locks
  queues_left = λ i slot. (other_state (ends_in old.rows) (ends_in new.rows) locks differ).queues slot i

at_same : (n : ℕ) (slots : List Slot) → map (at_number (λ s. s) n) slots ≡ slots
at_same n [] = refl
at_same n (s ∷ ss) = grind (arith, at_same n ss)

-- a record that gets other ends
module _ (table : Contents Cell) (a : AreInSlots table) (id : ℕ) (x : Cell) (has : option_map (λ pair. pair.1) (in_slot table.rows id) ≡ Some x) (y : Cell) (rest : y ≡ with_ends y x) (ends : Chain ℕ) (are : chain_in y ≡ ends) where
  abbrev set_rows : List (TableRow Cell)
  set_rows = map (with_record_in id y) table.rows

  pub ends_set : ends_in set_rows id ≡ ends
  ends_set =
      let t = cell_there (in_slot table.rows id) x has in
      ap ends_of (in_changed id y table.rows id ∙ ap (changed_in id y id) t.1) ∙ (ap (λ b. chain_in (cond b y x)) (eq-eqb id id refl) ∙ are)

  pub ends_others : (other : ℕ) → other ≢ id → ends_in set_rows other ≡ ends_in table.rows other
  ends_others other n = ap ends_of (in_changed id y table.rows other) ∙ by_test (eqb other id) refl (in_slot table.rows other)
    where
      by_test : (b : Bool) → eqb other id ≡ b → (o : Option (List ℕ × Cell)) → ends_of (option_map (λ p. (p.0, cond b y p.1)) o) ≡ ends_of o
      by_test true is o = absurd (n (eqb-true other id is))
      by_test false is None = refl
      by_test false is (Some p) = refl

  some_stays : (slot : ℕ) (o : Option (List ℕ × Cell)) → is_some (changed_in id y slot o) ≡ is_some o
  some_stays slot None = refl
  some_stays slot (Some p) = refl

  pub slots_kept : KeepSlots table (record table { rows = set_rows })
  slots_kept = record {
    capacity = refl;
    row = λ slot. ap is_some (in_changed id y table.rows slot) ∙ some_stays slot (in_slot table.rows slot);
    slots = λ side. changed_slots side table id x y (λ s. s) a has (λ number key. ap (slot_with side number key) rest) ∙ at_same id (slots_in side table.rows);
    sets = changed_sets table.rows id x y has (ap cell_words rest);
  }
