-- The slots in the rows of a table.
use Rattle.std.proofs.Common.{◌≡◌, ℕ, zero, suc, ◌+◌, ◌<◌, ◌≤◌, List, [], ◌∷◌, map, Option, Some, None, option_map, is_some, refl, sym, ap, ◌∙◌, arith, cond, Bool, true, false, eqb, eqb-true, subst}
use Rattle.std.proofs.lemmas.Bool.Decides.{nat_tests}
use Rattle.std.specs.Prelude.{insert}
use Rattle.std.specs.declared.cmp.Ordering.{Ordering}
use Rattle.std.specs.declared.cmp.Ordering.TheVariants.{Less, Equal, Greater}
use Rattle.std.specs.Ordering.{is_eq}
use Rattle.std.specs.FinMap.{find, put, is_sorted}
use Rattle.std.specs.FinMap.Entries.{below_all, by_order}
use Rattle.pc_model.specs.Database.{key_cmp, KeysRise, same_bytes}
use Rattle.pc_model.proofs.JoinLaws.{one_key}
use Rattle.pc_model.proofs.RisingLaws.{both, none_below, Rise}
use Rattle.pc_table.specs.Rows.{TableRow, Contents, slot_of as table_slot, in_slot, with_record_in, HasRow, AreInSlots, with_row}
use Rattle.pc_table.proofs.RowLaws.{no_row, slot_found, one_place}
use Rattle.pc_slots.specs.declared.cells.Cell.{Cell}
use Rattle.pc_slots.specs.Slots.{Slot, slot_with, base_cell, new_slot}
use Rattle.pc_records.specs.Slots.{no_queues, slot_in, slots_in, rows_of, numbers_of, times, at_number}
use Rattle.pc_records.proofs.Lookups.{slot_of, same_self}
use Rattle.pc_dirty.specs.declared.side.Side.{Side}
use Rattle.pc_records.proofs.BlankSlots.{blank_slot}
use Rattle.pc_records.proofs.SlotKeeping.{numbers_map}

-- if a slot of the key goes in
abbrev pub place : List ℕ → List Slot → ℕ
place key [] = 0
place key (s ∷ ss) = by_order (key_cmp key s.key) 0 0 (suc (place key ss))

-- what a slot that has a row has
pub row_in : (rows : List (TableRow Cell)) (n : ℕ) → HasRow rows n → (p : List ℕ × Cell) × (in_slot rows n ≡ Some p)
row_in rows n h = by_slot (in_slot rows n) h refl
  where
    by_slot : (o : Option (List ℕ × Cell)) → is_some o ≡ true → in_slot rows n ≡ o → (p : List ℕ × Cell) × (in_slot rows n ≡ Some p)
    by_slot None h e = absurd cc
    by_slot (Some p) h e = (p, e)

pub no_find : (rows : List (TableRow Cell)) (key : List ℕ) → table_slot rows key ≡ None → find key_cmp key rows ≡ None
no_find rows key e = by_place (find key_cmp key rows) e
  where
    by_place : (o : Option (ℕ × Cell)) → option_map (λ place. place.0) o ≡ None → o ≡ None
    by_place None e = refl
    by_place (Some p) e = absurd (no_row (sym e))

module _ (side : Side) where
  -- they ascend as the rows do
  below_slots : (key : List ℕ) (rows : List (TableRow Cell)) → below_all key_cmp key (rows_of no_queues (slots_in side rows)) ≡ below_all key_cmp key rows
  below_slots key [] = refl
  below_slots key (row ∷ rows) = rw (below_slots key rows) refl

  sorted_slots : (rows : List (TableRow Cell)) → is_sorted key_cmp (rows_of no_queues (slots_in side rows)) ≡ is_sorted key_cmp rows
  sorted_slots [] = refl
  sorted_slots (row ∷ rows) = rw (below_slots row.0 rows, sorted_slots rows) refl

  pub slots_rise : (rows : List (TableRow Cell)) → Rise rows → KeysRise (rows_of no_queues (slots_in side rows))
  slots_rise rows rise = sorted_slots rows ∙ rise

  pub rows_rise : (rows : List (TableRow Cell)) → KeysRise (rows_of no_queues (slots_in side rows)) → Rise rows
  rows_rise rows rise = sym (sorted_slots rows) ∙ rise

  -- a number that has a row is that of a slot
  pub no_number : (rows : List (TableRow Cell)) (n : ℕ) → in_slot rows n ≡ None → times n (numbers_of (slots_in side rows)) ≡ 0
  no_number [] n e = refl
  no_number (row ∷ rows) n e = grind (arith, nat_tests, no_number rows n)

  pub number_has : (rows : List (TableRow Cell)) (n : ℕ) → HasRow rows n → 0 < times n (numbers_of (slots_in side rows))
  number_has [] n e = absurd cc
  number_has (row ∷ rows) n e = grind (arith, nat_tests, number_has rows n)

  pub has_number : (rows : List (TableRow Cell)) (n : ℕ) → 0 < times n (numbers_of (slots_in side rows)) → HasRow rows n
  has_number [] n e = absurd (omega (arith, e))
  has_number (row ∷ rows) n e = grind (arith, nat_tests, has_number rows n)

  -- no two slots have one number
  once_rows : (rows : List (TableRow Cell)) → Rise rows → ((key other : List ℕ) (n : ℕ) (x y : Cell) → find key_cmp key rows ≡ Some (n, x) → find key_cmp other rows ≡ Some (n, y) → key ≡ other) → (n : ℕ) → times n (numbers_of (slots_in side rows)) ≤ 1
  once_rows [] rise apart n = omega arith
  once_rows (row ∷ rows) rise apart n =
      let parts = both (below_all key_cmp row.0 rows) (is_sorted key_cmp rows) rise in
      let none : find key_cmp row.0 rows ≡ None = none_below row.0 rows parts.0 in
      by_test none parts.1 (eqb row.1.0 n) refl (once_rows rows parts.1 (λ key other m x y e f. apart key other m x y (later none key (m, x) e) (later none other (m, y) f)) n)
    where
      later : find key_cmp row.0 rows ≡ None → (q : List ℕ) (v : ℕ × Cell) → find key_cmp q rows ≡ Some v → find key_cmp q (row ∷ rows) ≡ Some v
      later none q v e = by_key (same_bytes q row.0) refl
        where
          by_key : (b : Bool) → same_bytes q row.0 ≡ b → cond b (Some row.1) (find key_cmp q rows) ≡ Some v
          by_key true is = absurd (no_row (sym none ∙ (ap (λ k. find key_cmp k rows) (sym (one_key q row.0 is)) ∙ e)))
          by_key false is = e

      alone : find key_cmp row.0 rows ≡ None → Rise rows → row.1.0 ≡ n → 0 < times n (numbers_of (slots_in side rows)) → ⊥
      alone none rise is more =
          let h = row_in rows n (has_number rows n more) in
          let there : find key_cmp h.0.0 rows ≡ Some (n, h.0.1) = slot_found rows n h.0.0 h.0.1 rise h.1 in
          let first : find key_cmp row.0 (row ∷ rows) ≡ Some (n, row.1.1) = ap (λ b. cond b (Some row.1) (find key_cmp row.0 rows)) (same_self row.0) ∙ ap (λ m. Some (m, row.1.1)) is in
          let same : h.0.0 ≡ row.0 = apart h.0.0 row.0 n h.0.1 row.1.1 (later none h.0.0 (n, h.0.1) there) first in
          no_row (sym none ∙ (ap (λ k. find key_cmp k rows) (sym same) ∙ there))

      by_count : (m : ℕ) → times n (numbers_of (slots_in side rows)) ≡ m → (0 < times n (numbers_of (slots_in side rows)) → ⊥) → m + 1 ≤ 1
      by_count zero e never = omega arith
      by_count (suc m) e never = absurd (never (omega (arith, e)))

      by_test : find key_cmp row.0 rows ≡ None → Rise rows → (b : Bool) → eqb row.1.0 n ≡ b → times n (numbers_of (slots_in side rows)) ≤ 1 → cond b (times n (numbers_of (slots_in side rows)) + 1) (times n (numbers_of (slots_in side rows))) ≤ 1
      by_test none rise true is once = by_count (times n (numbers_of (slots_in side rows))) refl (alone none rise (eqb-true row.1.0 n is))
      by_test none rise false is once = once

  pub once_in : (table : Contents Cell) → AreInSlots table → (n : ℕ) → times n (numbers_of (slots_in side table.rows)) ≤ 1
  once_in table a = once_rows table.rows a.rise (λ key other n x y e f. one_place table key other n x y a e f)

  -- what is found of the key in the slots
  abbrev pub cell_of : List ℕ → ℕ × Cell → Slot
  cell_of key p = slot_with side p.0 key p.1

  pub find_slots : (rows : List (TableRow Cell)) (key : List ℕ) → slot_of (slots_in side rows) key ≡ option_map (cell_of key) (find key_cmp key rows)
  find_slots [] key = refl
  find_slots (row ∷ rows) key = by_test (same_bytes key row.0) refl (find_slots rows key)
    where
      by_test : (b : Bool) → same_bytes key row.0 ≡ b → slot_of (slots_in side rows) key ≡ option_map (cell_of key) (find key_cmp key rows) → cond b (Some (slot_in side row)) (slot_of (slots_in side rows) key) ≡ option_map (cell_of key) (cond b (Some row.1) (find key_cmp key rows))
      by_test true is rest = ap (λ k. Some (slot_with side row.1.0 k row.1.1)) (sym (one_key key row.0 is))
      by_test false is rest = rest

  -- a slot that gets another record
  same_others : (rows : List (TableRow Cell)) (n : ℕ) (y : Cell) (f : Slot → Slot) → times n (numbers_of (slots_in side rows)) ≡ 0 → slots_in side (map (with_record_in n y) rows) ≡ map (at_number f n) (slots_in side rows)
  same_others [] n y f none = refl
  same_others (row ∷ rows) n y f none = grind (arith, nat_tests, same_others rows n y f)

  changed_rows : (rows : List (TableRow Cell)) (n : ℕ) (x y : Cell) (f : Slot → Slot) → times n (numbers_of (slots_in side rows)) ≤ 1 → option_map (λ pair. pair.1) (in_slot rows n) ≡ Some x → ((number : ℕ) (key : List ℕ) → slot_with side number key y ≡ f (slot_with side number key x)) →
      slots_in side (map (with_record_in n y) rows) ≡ map (at_number f n) (slots_in side rows)
  changed_rows [] n x y f once e turns = refl
  changed_rows (row ∷ rows) n x y f once e turns = grind (arith, nat_tests, changed_rows rows n x y f, same_others rows n y f, turns row.1.0 row.0)

  pub changed_slots : (table : Contents Cell) (n : ℕ) (x y : Cell) (f : Slot → Slot) → AreInSlots table → option_map (λ pair. pair.1) (in_slot table.rows n) ≡ Some x → ((number : ℕ) (key : List ℕ) → slot_with side number key y ≡ f (slot_with side number key x)) →
      slots_in side (map (with_record_in n y) table.rows) ≡ map (at_number f n) (slots_in side table.rows)
  changed_slots table n x y f a e turns = changed_rows table.rows n x y f (once_in table a n) e turns

  -- a slot that goes in
  pub put_slots : (key : List ℕ) (n : ℕ) (x : Cell) (rows : List (TableRow Cell)) → find key_cmp key rows ≡ None → slots_in side (put key_cmp key (n, x) rows) ≡ insert (slots_in side rows) (place key (slots_in side rows)) (slot_with side n key x)
  put_slots key n x [] none = refl
  put_slots key n x (row ∷ rows) none = by_test (key_cmp key row.0) none (put_slots key n x rows)
    where
      by_test : (o : Ordering) → cond (is_eq o) (Some row.1) (find key_cmp key rows) ≡ None → (find key_cmp key rows ≡ None → slots_in side (put key_cmp key (n, x) rows) ≡ insert (slots_in side rows) (place key (slots_in side rows)) (slot_with side n key x)) →
          slots_in side (by_order o ((key, (n, x)) ∷ row ∷ rows) ((row.0, (n, x)) ∷ rows) (row ∷ put key_cmp key (n, x) rows)) ≡ insert (slots_in side (row ∷ rows)) (by_order o 0 0 (suc (place key (slots_in side rows)))) (slot_with side n key x)
      by_test Less none rest = refl
      by_test Equal none rest = absurd (no_row (sym none))
      by_test Greater none rest = ap (λ (ss : List Slot). slot_in side row ∷ ss) (rest none)

number_at : (f : Slot → Slot) → ((s : Slot) → (f s).number ≡ s.number) → (n : ℕ) (s : Slot) → (at_number f n s).number ≡ s.number
number_at f keeps n s = elim (eqb s.number n) as (λ b. (cond b (f s) s).number ≡ s.number) [ true ↦ keeps s | false ↦ refl ]

module _ (side : Side) where
  -- a slot that is changed has its row still
  pub row_stays : (old new : List (TableRow Cell)) (f : Slot → Slot) (n : ℕ) → ((s : Slot) → (f s).number ≡ s.number) → slots_in side new ≡ map (at_number f n) (slots_in side old) → HasRow old n → HasRow new n
  row_stays old new f n keeps is row = has_number side new n (subst (λ (ns : List ℕ). 0 < times n ns) (sym (ap numbers_of is ∙ numbers_map (at_number f n) (slots_in side old) (number_at f keeps n))) (number_has side old n row))

module _ (side : Side) where
  -- the slot went in
  module _ (old new : Contents Cell) (key : List ℕ) (id : ℕ) (none : table_slot old.rows key ≡ None) (made : new ≡ with_row old key id (base_cell None)) where
    pub went_in : slots_in side new.rows ≡ insert (slots_in side old.rows) (place key (slots_in side old.rows)) (new_slot id key)
    went_in = ap (λ (t : Contents Cell). slots_in side t.rows) made ∙ put_slots side key id (base_cell None) old.rows (no_find old.rows key none) ∙ ap (insert (slots_in side old.rows) (place key (slots_in side old.rows))) (blank_slot side id key None)
