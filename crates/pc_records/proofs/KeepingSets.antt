-- Rows of which the sets have what they had.
use Rattle.std.proofs.Common.{◌≡◌, ℕ, List, map, Option, Some, None, option_map, refl, sym, ap, ◌∙◌, cond, Bool, true, false, eqb, ◌||◌}
use Rattle.std.proofs.lemmas.Bool.{eqb-true}
use Rattle.pc_table.specs.Rows.{TableRow, Contents, in_slot, slot_of as table_slot, with_record_in, with_row, without_slot, IsNewSlot}
use Rattle.pc_table.proofs.RowLaws.{same_some}
use Rattle.pc_slots.specs.declared.cells.Cell.{Cell}
use Rattle.pc_slots.specs.Words.{Word, cell_words}
use Rattle.pc_slots.specs.Slots.{base_cell}
use Rattle.pc_records.specs.SetLists.{in_sets, KeepSets}
use Rattle.pc_records.proofs.InSlots.{in_changed, in_put, in_left, cell_there}
use Rattle.pc_records.proofs.TableSlots.{no_find}

pub sets_same : (rows : List (TableRow Cell)) → KeepSets rows rows
sets_same rows = record { same = λ slot. refl }

-- a record whose words stay
pub changed_sets : (rows : List (TableRow Cell)) (id : ℕ) (x y : Cell) → option_map (λ pair. pair.1) (in_slot rows id) ≡ Some x → cell_words y ≡ cell_words x → KeepSets rows (map (with_record_in id y) rows)
changed_sets rows id x y has same = record { same = λ slot. ap in_sets (in_changed id y rows slot) ∙ by_test slot (eqb slot id) refl (in_slot rows slot) refl }
  where
    by_test : (slot : ℕ) (b : Bool) → eqb slot id ≡ b → (o : Option (List ℕ × Cell)) → in_slot rows slot ≡ o → in_sets (option_map (λ p. (p.0, cond b y p.1)) o) ≡ in_sets o
    by_test slot b is None e = refl
    by_test slot false is (Some p) e = refl
    by_test slot true is (Some p) e =
        let here : Some p.1 ≡ Some x = sym (ap (option_map (λ (pair : List ℕ × Cell). pair.1)) e) ∙ (ap (λ m. option_map (λ (pair : List ℕ × Cell). pair.1) (in_slot rows m)) (eqb-true slot id is) ∙ has) in
        ap (λ (w : Word × Word). cond (w.0.is_in || w.1.is_in) (Some (p.0, w)) None) (same ∙ ap cell_words (sym (same_some here)))

-- a row that goes in, of a key that has nothing yet
pub sets_with : (old new : Contents Cell) (key : List ℕ) (id : ℕ) (content : Option (List ℕ)) → table_slot old.rows key ≡ None → IsNewSlot old id → new ≡ with_row old key id (base_cell content) → KeepSets old.rows new.rows
sets_with old new key id content none fresh made = record {
  same = λ slot. ap (λ (t : Contents Cell). in_sets (in_slot t.rows slot)) made ∙ (ap in_sets (in_put key id (base_cell content) old.rows slot (no_find old.rows key none) fresh.1) ∙ by_test slot (eqb id slot) refl);
}
  where
    by_test : (slot : ℕ) (b : Bool) → eqb id slot ≡ b → in_sets (cond b (Some (key, base_cell content)) (in_slot old.rows slot)) ≡ in_sets (in_slot old.rows slot)
    by_test slot true is = ap in_sets (sym fresh.1 ∙ ap (in_slot old.rows) (eqb-true id slot is))
    by_test slot false is = refl

-- a row that goes, which is in no set
pub sets_without : (old new : Contents Cell) (id : ℕ) (x : Cell) → option_map (λ pair. pair.1) (in_slot old.rows id) ≡ Some x → (x.first.is_in || x.second.is_in) ≡ false → new ≡ without_slot old id → KeepSets old.rows new.rows
sets_without old new id x has none gone = record {
  same = λ slot. ap (λ (t : Contents Cell). in_sets (in_slot t.rows slot)) gone ∙ (ap in_sets (in_left id old.rows slot) ∙ by_test slot (eqb id slot) refl);
}
  where
    by_test : (slot : ℕ) (b : Bool) → eqb id slot ≡ b → in_sets (cond b None (in_slot old.rows slot)) ≡ in_sets (in_slot old.rows slot)
    by_test slot true is =
        let t = cell_there (in_slot old.rows id) x has in
        sym (ap (λ m. in_sets (in_slot old.rows m)) (sym (eqb-true id slot is)) ∙ (ap in_sets t.1 ∙ ap (λ b. cond b (Some (t.0, cell_words x)) None) none))
    by_test slot false is = refl
