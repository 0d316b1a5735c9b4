-- The view of entries: by key and by slot they are found as they are.
use Rattle.std.proofs.Common.{◌≡◌, ℕ, zero, suc, ◌+◌, List, [], ◌∷◌, Option, Some, None, option_map, is_some, Bool, true, false, cond, refl, sym, ap, ◌∙◌, arith}
use Rattle.std.specs.FinMap.{find}
use Rattle.std.specs.FinMap.Entries.{find-put, is_sorted-put}
use Rattle.pc_chain.specs.Slots.{Slots, at}
use Rattle.pc_chain.proofs.SlotLaws.{taken_below}
use Rattle.pc_index.specs.Indexes.{IndexView}
use Rattle.pc_index.specs.Keys.{key_at, IsAbsent}
use Rattle.pc_model.specs.Database.{key_cmp, key_order, same_bytes}
use Rattle.pc_model.proofs.JoinLaws.{one_key}
use Rattle.pc_model.proofs.PairMapLaws.{computes, tested}
use Rattle.pc_model.proofs.RisingLaws.{Rise}
use Rattle.pc_table.specs.declared.entry.TableEntry.{TableEntry}
use Rattle.pc_table.specs.Rows.{in_slot, AreInSlots}
use Rattle.pc_table.specs.Entries.{key_in, entry_of, rows_from, contents_of, AreEntriesKept}
use Rattle.pc_table.proofs.RowLaws.{own_key, no_row, same_some, slot_found, found_has}

module _ {T : Type 0} where
  -- the key is in this slot alone, if in any
  abbrev pub IsOnlyIn : List (Option (TableEntry T)) → List ℕ → ℕ → Type 0
  IsOnlyIn items key id = (j : ℕ) → key_at key_in items j ≡ Some key → j ≡ id

  -- the first slot from the n-th on that has the key, and its record
  abbrev pub look : List ℕ → ℕ → List (Option (TableEntry T)) → Option (ℕ × T)
  look key n [] = None
  look key n (None ∷ items) = look key (n + 1) items
  look key n (Some entry ∷ items) = cond (same_bytes key entry.key) (Some (n, entry.item)) (look key (n + 1) items)

  -- what is found of the rows
  pub found_looked : (key : List ℕ) (n : ℕ) (items : List (Option (TableEntry T))) → find key_cmp key (rows_from n items) ≡ look key n items
  found_looked key n [] = refl
  found_looked key n (None ∷ items) = found_looked key (n + 1) items
  found_looked key n (Some entry ∷ items) =
      find-put key_cmp key_order.total key entry.key (n, entry.item) (rows_from (n + 1) items) ∙ ap (cond (same_bytes key entry.key) (Some (n, entry.item))) (found_looked key (n + 1) items)

  pub rows_rise : (n : ℕ) (items : List (Option (TableEntry T))) → Rise (rows_from n items)
  rows_rise n [] = refl
  rows_rise n (None ∷ items) = rows_rise (n + 1) items
  rows_rise n (Some entry ∷ items) = tested (is_sorted-put key_cmp key_order.total entry.key (n, entry.item) (rows_from (n + 1) items) (computes (rows_rise (n + 1) items)))

  -- what is looked up is there
  pub looked_at : (key : List ℕ) (n : ℕ) (items : List (Option (TableEntry T))) (id : ℕ) (x : T) → look key n items ≡ Some (id, x) → (i : ℕ) × (id ≡ n + i) × (at items i ≡ Some (entry_of key x))
  looked_at key n [] id x e = absurd (no_row e)
  looked_at key n (None ∷ items) id x e = let h = looked_at key (n + 1) items id x e in (suc h.0, omega (arith, h.1), h.2)
  looked_at key n (Some entry ∷ items) id x e = by (same_bytes key entry.key) refl (looked_at key (n + 1) items id x) e
    where
      here : n ≡ id → entry.item ≡ x → key ≡ entry.key → (i : ℕ) × (id ≡ n + i) × (at (Some entry ∷ items) i ≡ Some (entry_of key x))
      here a b c = (0, omega (arith, a), λ i. Some (record { key = sym c i; item = b i }))

      by : (t : Bool) → same_bytes key entry.key ≡ t → (look key (n + 1) items ≡ Some (id, x) → (i : ℕ) × (id ≡ (n + 1) + i) × (at items i ≡ Some (entry_of key x))) →
          cond t (Some (n, entry.item)) (look key (n + 1) items) ≡ Some (id, x) → (i : ℕ) × (id ≡ n + i) × (at (Some entry ∷ items) i ≡ Some (entry_of key x))
      by true t rest e = let p = same_some e in here (ap (λ (p : ℕ × T). p.0) p) (ap (λ (p : ℕ × T). p.1) p) (one_key key entry.key t)
      by false t rest e = let h = rest e in (suc h.0, omega (arith, h.1), h.2)

  -- the entry of a slot, alone with its key there, is looked up
  pub at_looked : (n : ℕ) (items : List (Option (TableEntry T))) (i : ℕ) (entry : TableEntry T) → at items i ≡ Some entry → IsOnlyIn items entry.key i → look entry.key n items ≡ Some (n + i, entry.item)
  at_looked n [] i entry e o = absurd (no_row e)
  at_looked n (None ∷ items) zero entry e o = absurd (no_row e)
  at_looked n (None ∷ items) (suc i) entry e o =
      at_looked (n + 1) items i entry e (λ j h. let s : suc j ≡ suc i = o (suc j) h in omega (arith, s)) ∙ ap (λ m. Some (m, entry.item)) (omega arith)
  at_looked n (Some first ∷ items) zero entry e o = let f : first ≡ entry = cc in
      ap (λ (g : TableEntry T). cond (same_bytes entry.key g.key) (Some (n, g.item)) (look entry.key (n + 1) items)) f
      ∙ (ap (λ t. cond t (Some (n, entry.item)) (look entry.key (n + 1) items)) (own_key entry.key) ∙ ap (λ m. Some (m, entry.item)) (omega arith))
  at_looked n (Some first ∷ items) (suc i) entry e o =
      by (same_bytes entry.key first.key) refl (at_looked (n + 1) items i entry e (λ j h. let s : suc j ≡ suc i = o (suc j) h in omega (arith, s)) ∙ ap (λ m. Some (m, entry.item)) (omega arith))
    where
      by : (t : Bool) → same_bytes entry.key first.key ≡ t → look entry.key (n + 1) items ≡ Some (n + suc i, entry.item) → cond t (Some (n, first.item)) (look entry.key (n + 1) items) ≡ Some (n + suc i, entry.item)
      by true t rest = absurd (let s : 0 ≡ suc i = o 0 (ap Some (sym (one_key entry.key first.key t))) in omega (arith, s))
      by false t rest = rest

  -- a key that is nowhere isn't found
  pub none_looked : (key : List ℕ) (n : ℕ) (items : List (Option (TableEntry T))) → IsAbsent key_in items key → look key n items ≡ None
  none_looked key n [] a = refl
  none_looked key n (None ∷ items) a = none_looked key (n + 1) items (λ j. a (suc j))
  none_looked key n (Some entry ∷ items) a = by (same_bytes key entry.key) refl (none_looked key (n + 1) items (λ j. a (suc j)))
    where
      by : (t : Bool) → same_bytes key entry.key ≡ t → look key (n + 1) items ≡ None → cond t (Some (n, entry.item)) (look key (n + 1) items) ≡ None
      by true t rest = absurd (a 0 (ap Some (sym (one_key key entry.key t))))
      by false t rest = rest

  module _ (items : List (Option (TableEntry T))) (distinct : (id other : ℕ) (key : List ℕ) → key_at key_in items id ≡ Some key → key_at key_in items other ≡ Some key → id ≡ other) where
    -- the entry of a slot is found by its key
    pub at_found : (id : ℕ) (entry : TableEntry T) → at items id ≡ Some entry → find key_cmp entry.key (rows_from 0 items) ≡ Some (id, entry.item)
    at_found id entry e = found_looked entry.key 0 items ∙ (at_looked 0 items id entry e (λ j h. distinct j id entry.key h (ap (option_map key_in) e)) ∙ ap (λ m. Some (m, entry.item)) (omega arith))

    pub found_at : (id : ℕ) (key : List ℕ) (x : T) → find key_cmp key (rows_from 0 items) ≡ Some (id, x) → at items id ≡ Some (entry_of key x)
    found_at id key x e = let h = looked_at key 0 items id x (sym (found_looked key 0 items) ∙ e) in let s : id ≡ h.0 = omega (arith, h.1) in ap (at items) s ∙ h.2

    abbrev pub pair_in : TableEntry T → List ℕ × T
    pair_in entry = (entry.key, entry.item)

    -- what is seen in a slot is there
    pub seen_at : (id : ℕ) → in_slot (rows_from 0 items) id ≡ option_map pair_in (at items id)
    seen_at id = by (in_slot (rows_from 0 items) id) (at items id) refl refl
      where
        by : (s : Option (List ℕ × T)) (a : Option (TableEntry T)) → in_slot (rows_from 0 items) id ≡ s → at items id ≡ a → s ≡ option_map pair_in a
        by None None s a = refl
        by None (Some entry) s a = absurd (let h : is_some (in_slot (rows_from 0 items) id) ≡ true = found_has (rows_from 0 items) id entry.key entry.item (at_found id entry a) in let f : is_some (in_slot (rows_from 0 items) id) ≡ false = ap is_some s in cc)
        by (Some p) a s t = sym (ap (option_map pair_in) (sym t ∙ found_at id p.0 p.1 (slot_found (rows_from 0 items) id p.0 p.1 (rows_rise 0 items) s)))

  pub in_slots : (slots : Slots (TableEntry T)) (by_key : IndexView) → AreEntriesKept slots by_key → AreInSlots (contents_of slots.items)
  in_slots slots by_key k = record {
    rise = rows_rise 0 slots.items;
    most = k.most;
    below = λ id h. taken_below slots.items id (some_mapped (at slots.items id) (sym (ap is_some (seen_at slots.items k.index.distinct id)) ∙ h));
    each = λ id key x. (
      (slot_found (rows_from 0 slots.items) id key x (rows_rise 0 slots.items)),
      (λ e. seen_at slots.items k.index.distinct id ∙ ap (option_map (pair_in slots.items k.index.distinct)) (found_at slots.items k.index.distinct id key x e)),
    );
  }
    where
      some_mapped : (o : Option (TableEntry T)) → is_some (option_map (pair_in slots.items k.index.distinct) o) ≡ true → is_some o ≡ true
      some_mapped None e = e
      some_mapped (Some entry) e = refl
