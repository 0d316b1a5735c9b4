-- What is seen of entries once a slot is written or cleared, and how many rows there are.
use Rattle.std.proofs.Common.{◌≡◌, ℕ, zero, suc, ◌+◌, ◌<◌, ◌≤◌, ◌==◌, List, [], ◌∷◌, length, set, filter, Option, Some, None, option_map, is_some, Bool, true, false, cond, not, refl, sym, ap, ◌∙◌, arith, length-set}
use Rattle.std.specs.FinMap.{find, put}
use Rattle.std.specs.FinMap.Entries.{find-put, length-put}
use Rattle.std.proofs.lemmas.Bool.{eqb-true, eqb-false, eq-eqb, ne_eqb}
use Rattle.pc_chain.specs.Slots.{Slots, at, is_full}
use Rattle.pc_index.specs.Indexes.{IndexView}
use Rattle.pc_index.specs.Keys.{key_at}
use Rattle.pc_model.specs.Database.{key_cmp, key_order, same_bytes}
use Rattle.pc_model.proofs.JoinLaws.{one_key}
use Rattle.pc_model.proofs.MapLaws.{find-without}
use Rattle.pc_model.proofs.PairMapLaws.{computes}
use Rattle.pc_table.specs.declared.entry.TableEntry.{TableEntry}
use Rattle.pc_table.specs.Rows.{TableRow, with_row, without_slot}
use Rattle.pc_table.specs.Entries.{key_in, rows_from, contents_of, AreEntriesKept}
use Rattle.pc_table.proofs.RowLaws.{no_row, same_some, same_rows, rise_put, rise_filtered, removed_key}
use Rattle.pc_table.proofs.Seen.{IsOnlyIn, look, found_looked, rows_rise, none_looked, at_found, in_slots}

-- of two tests that never hold together the order doesn't matter
swapped : {X : Type 0} (a b : Bool) (x y z : X) → (a ≡ true → b ≡ true → ⊥) → cond a x (cond b y z) ≡ cond b y (cond a x z)
swapped true true x y z n = absurd (n refl refl)
swapped true false x y z n = refl
swapped false b x y z n = refl

shadowed : {X : Type 0} (b : Bool) (x y z : X) → cond b x z ≡ cond b x (cond b y z)
shadowed true x y z = refl
shadowed false x y z = refl

module _ {T : Type 0} where
  contents_from : (items : List (Option (TableEntry T))) (capacity : ℕ) (rows : List (TableRow T)) → length items ≡ capacity → rows_from 0 items ≡ rows → contents_of items ≡ record { capacity = capacity; rows = rows }
  contents_from items capacity rows c r = rw (c, r)

  -- the key in the slot, if there is one, is this one
  abbrev pub HasOnly : List (Option (TableEntry T)) → List ℕ → ℕ → Type 0
  HasOnly items key id = (k : List ℕ) → key_at key_in items id ≡ Some k → k ≡ key

  apart : (key : List ℕ) (first entry : TableEntry T) (items : List (Option (TableEntry T))) (id : ℕ) → IsOnlyIn (Some first ∷ items) entry.key (suc id) → same_bytes key first.key ≡ true → same_bytes key entry.key ≡ true → ⊥
  apart key first entry items id o a b = let s : 0 ≡ suc id = o 0 (ap Some (sym (one_key key first.key a) ∙ one_key key entry.key b)) in omega (arith, s)

  only_behind : (item : Option (TableEntry T)) (items : List (Option (TableEntry T))) (key : List ℕ) (id : ℕ) → IsOnlyIn (item ∷ items) key (suc id) → IsOnlyIn items key id
  only_behind item items key id o = λ j h. let s : suc j ≡ suc id = o (suc j) h in omega (arith, s)

  -- what is looked up once an entry is in a slot
  look_set : (key : List ℕ) (n id : ℕ) (items : List (Option (TableEntry T))) (entry : TableEntry T) → id < length items → IsOnlyIn items entry.key id → HasOnly items entry.key id →
      look key n (set items id (Some entry)) ≡ cond (same_bytes key entry.key) (Some (n + id, entry.item)) (look key n items)
  look_set key n id [] entry w o h = absurd (omega (arith, w))
  look_set key n zero (None ∷ items) entry w o h = ap (λ m. cond (same_bytes key entry.key) (Some (m, entry.item)) (look key (n + 1) items)) (omega arith)
  look_set key n zero (Some first ∷ items) entry w o h =
      ap (λ m. cond (same_bytes key entry.key) (Some (m, entry.item)) (look key (n + 1) items)) (omega arith)
      ∙ (shadowed (same_bytes key entry.key) (Some (n + 0, entry.item)) (Some (n, first.item)) (look key (n + 1) items)
      ∙ ap (λ k. cond (same_bytes key entry.key) (Some (n + 0, entry.item)) (cond (same_bytes key k) (Some (n, first.item)) (look key (n + 1) items))) (sym (h first.key refl)))
  look_set key n (suc id) (None ∷ items) entry w o h =
      look_set key (n + 1) id items entry (omega (arith, w)) (only_behind None items entry.key id o) h
      ∙ ap (λ m. cond (same_bytes key entry.key) (Some (m, entry.item)) (look key (n + 1) items)) (omega arith)
  look_set key n (suc id) (Some first ∷ items) entry w o h =
      ap (cond (same_bytes key first.key) (Some (n, first.item)))
      (look_set key (n + 1) id items entry (omega (arith, w)) (only_behind (Some first) items entry.key id o) h
      ∙ ap (λ m. cond (same_bytes key entry.key) (Some (m, entry.item)) (look key (n + 1) items)) (omega arith))
      ∙ swapped (same_bytes key first.key) (same_bytes key entry.key) (Some (n, first.item)) (Some (n + suc id, entry.item)) (look key (n + 1) items) (apart key first entry items id o)

  -- what is looked up once a slot is cleared
  look_cleared : (key : List ℕ) (n id : ℕ) (items : List (Option (TableEntry T))) (entry : TableEntry T) → at items id ≡ Some entry → IsOnlyIn items entry.key id →
      look key n (set items id None) ≡ cond (same_bytes key entry.key) None (look key n items)
  look_cleared key n id [] entry e o = absurd (no_row e)
  look_cleared key n zero (None ∷ items) entry e o = absurd (no_row e)
  look_cleared key n zero (Some first ∷ items) entry e o = by (same_bytes key entry.key) refl
    where
      by : (b : Bool) → same_bytes key entry.key ≡ b → look key (n + 1) items ≡ cond b None (cond (same_bytes key first.key) (Some (n, first.item)) (look key (n + 1) items))
      by true b = none_looked key (n + 1) items (λ j h. let s : suc j ≡ 0 = o (suc j) (h ∙ ap Some (one_key key entry.key b)) in omega (arith, s))
      by false b = sym (ap (λ t. cond t (Some (n, first.item)) (look key (n + 1) items)) (ap (λ (f : TableEntry T). same_bytes key f.key) (same_some e) ∙ b))
  look_cleared key n (suc id) (None ∷ items) entry e o = look_cleared key (n + 1) id items entry e (only_behind None items entry.key id o)
  look_cleared key n (suc id) (Some first ∷ items) entry e o =
      ap (cond (same_bytes key first.key) (Some (n, first.item))) (look_cleared key (n + 1) id items entry e (only_behind (Some first) items entry.key id o))
      ∙ swapped (same_bytes key first.key) (same_bytes key entry.key) (Some (n, first.item)) None (look key (n + 1) items) (apart key first entry items id o)

  -- an entry that goes into a slot puts its row
  pub contents_set : (items : List (Option (TableEntry T))) (id : ℕ) (entry : TableEntry T) → id < length items → IsOnlyIn items entry.key id → HasOnly items entry.key id →
      contents_of (set items id (Some entry)) ≡ with_row (contents_of items) entry.key id entry.item
  contents_set items id entry w o h =
      contents_from (set items id (Some entry)) (length items) (put key_cmp entry.key (id, entry.item) (rows_from 0 items)) (length-set items id (Some entry))
      (same_rows (rows_from 0 (set items id (Some entry))) (put key_cmp entry.key (id, entry.item) (rows_from 0 items)) (rows_rise 0 (set items id (Some entry))) (rise_put (rows_from 0 items) entry.key (id, entry.item) (rows_rise 0 items)) found)
    where
      found : (q : List ℕ) → find key_cmp q (rows_from 0 (set items id (Some entry))) ≡ find key_cmp q (put key_cmp entry.key (id, entry.item) (rows_from 0 items))
      found q =
          found_looked q 0 (set items id (Some entry)) ∙ (look_set q 0 id items entry w o h ∙ (ap (λ m. cond (same_bytes q entry.key) (Some (m, entry.item)) (look q 0 items)) (omega arith)
          ∙ (ap (cond (same_bytes q entry.key) (Some (id, entry.item))) (sym (found_looked q 0 items)) ∙ sym (find-put key_cmp key_order.total q entry.key (id, entry.item) (rows_from 0 items)))))

  -- how many slots are taken
  abbrev taken : List (Option (TableEntry T)) → ℕ
  taken [] = 0
  taken (None ∷ items) = taken items
  taken (Some entry ∷ items) = taken items + 1

  taken_fits : (items : List (Option (TableEntry T))) → taken items ≤ length items
  taken_fits [] = omega arith
  taken_fits (None ∷ items) = let r = taken_fits items in omega (arith, r)
  taken_fits (Some entry ∷ items) = let r = taken_fits items in omega (arith, r)

  full_taken : (items : List (Option (TableEntry T))) → is_full items ≡ (taken items == length items)
  full_taken [] = refl
  full_taken (None ∷ items) = sym (ne_eqb (taken items) (length (None ∷ items)) (λ e. let r = taken_fits items in omega (arith, r, e)))
  full_taken (Some entry ∷ items) = full_taken items ∙ by (taken items == length items) refl
    where
      by : (b : Bool) → (taken items == length items) ≡ b → b ≡ (taken items + 1 == length (Some entry ∷ items))
      by true b = sym (eq-eqb (taken items + 1) (length (Some entry ∷ items)) (let e = eqb-true (taken items) (length items) b in omega (arith, e)))
      by false b = sym (ne_eqb (taken items + 1) (length (Some entry ∷ items)) (λ f. eqb-false (taken items) (length items) b (omega (arith, f))))

  abbrev pub AreDistinct : List (Option (TableEntry T)) → Type 0
  AreDistinct items = (id other : ℕ) (key : List ℕ) → key_at key_in items id ≡ Some key → key_at key_in items other ≡ Some key → id ≡ other

  distinct_behind : (item : Option (TableEntry T)) (items : List (Option (TableEntry T))) → AreDistinct (item ∷ items) → AreDistinct items
  distinct_behind item items d = λ id other key e f. let s : suc id ≡ suc other = d (suc id) (suc other) key e f in omega (arith, s)

  rows_taken : (n : ℕ) (items : List (Option (TableEntry T))) → AreDistinct items → length (rows_from n items) ≡ taken items
  rows_taken n [] d = refl
  rows_taken n (None ∷ items) d = rows_taken (n + 1) items (distinct_behind None items d)
  rows_taken n (Some entry ∷ items) d =
      let rows = rows_from (n + 1) items in
      let none : find key_cmp entry.key rows ≡ None = found_looked entry.key (n + 1) items ∙ none_looked entry.key (n + 1) items (λ j h. let s : suc j ≡ 0 = d (suc j) 0 entry.key h refl in omega (arith, s)) in
      length-put key_cmp key_order.total entry.key (n, entry.item) rows (computes (rows_rise (n + 1) items))
      ∙ (ap (λ (o : Option (ℕ × T)). cond (is_some o) (length rows) (length rows + 1)) none ∙ ap (λ m. m + 1) (rows_taken (n + 1) items (distinct_behind (Some entry) items d)))

  -- a slot that is cleared takes its row away
  pub contents_cleared : (slots : Slots (TableEntry T)) (by_key : IndexView) (id : ℕ) (entry : TableEntry T) → AreEntriesKept slots by_key → at slots.items id ≡ Some entry → contents_of (set slots.items id None) ≡ without_slot (contents_of slots.items) id
  contents_cleared slots by_key id entry k e =
      let rows = rows_from 0 slots.items in
      let others = filter (λ row. not (same_bytes entry.key row.0)) rows in
      contents_from (set slots.items id None) (length slots.items) (without_slot (contents_of slots.items) id).rows (length-set slots.items id None)
      (same_rows (rows_from 0 (set slots.items id None)) others (rows_rise 0 (set slots.items id None)) (rise_filtered (λ row. not (same_bytes entry.key row.0)) rows (rows_rise 0 slots.items)) found
      ∙ sym (removed_key (contents_of slots.items) entry.key id (in_slots slots by_key k) (ap (option_map (λ (place : ℕ × T). place.0)) (at_found slots.items k.index.distinct id entry e))))
    where
      found : (q : List ℕ) → find key_cmp q (rows_from 0 (set slots.items id None)) ≡ find key_cmp q (filter (λ row. not (same_bytes entry.key row.0)) (rows_from 0 slots.items))
      found q =
          found_looked q 0 (set slots.items id None) ∙ (look_cleared q 0 id slots.items entry e (λ j h. k.index.distinct j id entry.key h (ap (option_map key_in) e))
          ∙ (ap (cond (same_bytes q entry.key) None) (sym (found_looked q 0 slots.items)) ∙ sym (find-without key_order entry.key q (rows_from 0 slots.items))))

  -- each slot is taken if and only if there are as many rows as slots
  pub full_rows : (items : List (Option (TableEntry T))) → AreDistinct items → is_full items ≡ (length (rows_from 0 items) == length items)
  full_rows items d = full_taken items ∙ ap (λ m. m == length items) (sym (rows_taken 0 items d))
