-- The committed pairs of the slots.
use Rattle.std.proofs.Common.{◌≡◌, ℕ, ◌+◌, ◌≤◌, List, [], ◌∷◌, ◌++◌, Option, Some, None, option_map, Bool, true, false, cond, nat_lt, refl, sym, ap, ◌∙◌, arith}
use Rattle.std.specs.Prelude.{Result, Ok, Err, IfOk}
use Rattle.std.specs.FinMap.{find, put}
use Rattle.std.specs.FinMap.Entries.{find-put, find-append}
use Rattle.std.proofs.lemmas.List.{append-nil}
use Rattle.std.proofs.lemmas.Bool.{lt-ltb, le-ltb}
use Rattle.pc_model.specs.Maps as map_of
use Rattle.pc_model.specs.Maps.{from_list}
use Rattle.pc_model.specs.Database.{KeysRise, database_of, key_cmp, key_order, same_bytes}
use Rattle.pc_locks.specs.States.{Queues}
use Rattle.pc_model.proofs.MapLaws.{get-from_list, same_map}
use Rattle.pc_model.proofs.PairMapLaws.{entries_of}
use Rattle.pc_table.specs.Rows.{TableRow, Contents, in_slot, AreInSlots}
use Rattle.pc_table.specs.Passing.{rows_below}
use Rattle.pc_table.proofs.RowLaws.{passing, find_filtered, found_has}
use Rattle.pc_table.proofs.PassingLaws.{none_passed, row_passed, gap_passed}
use Rattle.pc_slots.specs.declared.cells.Cell.{Cell}
use Rattle.pc_records.specs.Rows.{record_of, stored}
use Rattle.pc_slots.specs.Slots.{Slot, slot_with, committed}
use Rattle.pc_records.specs.Slots.{no_queues, slots_in, rows_of, with_optional_entry, contents_of, content_in, committed_pairs}
use Rattle.pc_records.proofs.Lookups.{of_slot, record_in, slot_of, find_entry, find_row, sorted_entries}
use Rattle.pc_records.proofs.SlotRising.{contents_rise}
use Rattle.pc_records.proofs.TableSlots.{slots_rise, find_slots, cell_of}
use Rattle.pc_dirty.specs.declared.side.Side.{Side}
use Rattle.pc_dirty.specs.declared.side.Side.TheVariants.{First}

-- the pairs of contents that are values
abbrev pub pairs_in : List (List ℕ × Option (List ℕ)) → List (List ℕ × List ℕ)
pairs_in [] = []
pairs_in (e ∷ es) = with_optional_entry e.0 e.1 (pairs_in es)

pub pairs_of : (slots : List Slot) → pairs_in (contents_of slots) ≡ committed_pairs slots
pairs_of [] = refl
pairs_of (s ∷ ss) = ap (with_optional_entry s.key (committed s)) (pairs_of ss)

stored_in : (queues : Queues) (o : Option Slot) → of_slot committed o ≡ stored (record_in queues o)
stored_in queues None = refl
stored_in queues (Some s) = refl

module _ (side : Side) where
  -- what is committed in a place of the table
  abbrev pub content : ℕ × Cell → Option (List ℕ)
  content p = committed (slot_with side p.0 [] p.1)

  -- the entries have what is committed in the slots below n
  abbrev pub AreContents : Contents Cell → ℕ → List (List ℕ × Option (List ℕ)) → Type 0
  AreContents table n es = (q : List ℕ) → find key_cmp q es ≡ option_map content (find key_cmp q (rows_below table n))

  module _ (table : Contents Cell) (a : AreInSlots table) where
    pub contents_none : AreContents table 0 []
    contents_none = λ q. sym (ap (λ rows. option_map content (find key_cmp q rows)) (none_passed table a))

    pub contents_gap : (n : ℕ) (es : List (List ℕ × Option (List ℕ))) → None ≡ in_slot table.rows n → AreContents table n es → AreContents table (n + 1) es
    contents_gap n es e are = λ q. are q ∙ ap (λ rows. option_map content (find key_cmp q rows)) (sym (gap_passed table a n (sym e)))

    pub contents_row : (n : ℕ) (es new : List (List ℕ × Option (List ℕ))) (key : List ℕ) (x : Cell) (c : Option (List ℕ)) → Some (key, x) ≡ in_slot table.rows n → c ≡ content (n, x) → new ≡ es ++ (key, c) ∷ [] → AreContents table n es → AreContents table (n + 1) new
    contents_row n es new key x c e c_is new_is are = λ q.
        ap (find key_cmp q) new_is
        ∙ (find-append key_cmp key_order.total es key c q (are key ∙ ap (option_map content) none) ∙ (step q (same_bytes q key) (are q) ∙ ap (λ rows. option_map content (find key_cmp q rows)) (sym (row_passed table a n key x (sym e)))))
      where
        found : find key_cmp key table.rows ≡ Some (n, x)
        found = (a.each n key x).0 (sym e)

        none : find key_cmp key (rows_below table n) ≡ None
        none =
            find_filtered (λ row. nat_lt row.1.0 n) key table.rows a.rise ∙ (ap (passing (λ row. nat_lt row.1.0 n) key) found ∙ ap (λ t. cond t (Some (n, x)) None) (le-ltb n n (omega arith)))

        by_test : (b : Bool) (o : Option (ℕ × Cell)) (f : Option (Option (List ℕ))) → f ≡ option_map content o → cond b (Some c) f ≡ option_map content (cond b (Some (n, x)) o)
        by_test true o f g = ap Some c_is
        by_test false o f g = g

        step : (q : List ℕ) (b : Bool) → find key_cmp q es ≡ option_map content (find key_cmp q (rows_below table n)) → cond (same_bytes q key) (Some c) (find key_cmp q es) ≡ option_map content (find key_cmp q (put key_cmp key (n, x) (rows_below table n)))
        step q b g = by_test (same_bytes q key) (find key_cmp q (rows_below table n)) (find key_cmp q es) g ∙ ap (option_map content) (sym (find-put key_cmp key_order.total q key (n, x) (rows_below table n)))

    pub contents_step : (n : ℕ) (es new : List (List ℕ × Option (List ℕ))) → new ≡ es ++ content_in (in_slot table.rows n) → AreContents table n es → AreContents table (n + 1) new
    contents_step n es new new_is are = by_slot (in_slot table.rows n) refl
      where
        by_slot : (o : Option (List ℕ × Cell)) → in_slot table.rows n ≡ o → AreContents table (n + 1) new
        by_slot None e = λ q. ap (find key_cmp q) (new_is ∙ (ap (λ o. es ++ content_in o) e ∙ append-nil es)) ∙ contents_gap n es (sym e) are q
        by_slot (Some p) e = contents_row n es new p.0 p.1 (content (n, p.1)) (sym e) refl (new_is ∙ ap (λ o. es ++ content_in o) e) are

    -- in the end they have what is committed in all slots
    found_all : (n : ℕ) → table.capacity ≤ n → (q : List ℕ) → find key_cmp q (rows_below table n) ≡ find key_cmp q table.rows
    found_all n le q = find_filtered (λ row. nat_lt row.1.0 n) q table.rows a.rise ∙ by_place (find key_cmp q table.rows) refl
      where
        by_place : (o : Option (ℕ × Cell)) → find key_cmp q table.rows ≡ o → passing (λ row. nat_lt row.1.0 n) q o ≡ o
        by_place None f = refl
        by_place (Some p) f = ap (λ t. cond t (Some p) None) (lt-ltb p.0 n (let lt = a.below p.0 (found_has table.rows p.0 q p.1 f) in omega (arith, lt, le)))

    find_content : (slots : List Slot) (q : List ℕ) → find key_cmp q (contents_of slots) ≡ option_map committed (slot_of slots q)
    find_content [] q = refl
    find_content (s ∷ ss) q = grind (arith, find_content ss q)

    content_found : (q : List ℕ) (o : Option (ℕ × Cell)) → option_map content o ≡ option_map committed (option_map (cell_of side q) o)
    content_found q None = refl
    content_found q (Some p) = refl

    pub contents_all : {V E : Type 0} (items : V → List (List ℕ × Option (List ℕ))) (n : ℕ) (es : List (List ℕ × Option (List ℕ))) (r : Result V E) → table.capacity ≤ n → AreContents table n es → IfOk r (λ out. items out ≡ (from_list {o = key_order} es).entries) → IfOk r (λ out. items out ≡ contents_of (slots_in side table.rows))
    contents_all items n es (Err e) le are same = tt
    contents_all items n es (Ok out) le are same =
        same
        ∙ (ap (λ m. m.entries) (same_map (from_list {o = key_order} es) (from_list (contents_of (slots_in side table.rows))) (λ q.
        get-from_list key_order es q
        ∙ (are q ∙ (ap (option_map content) (found_all n le q) ∙ (content_found q (find key_cmp q table.rows) ∙ (ap (option_map committed) (sym (find_slots side table.rows q)) ∙ (sym (find_content (slots_in side table.rows) q) ∙ sym (get-from_list key_order (contents_of (slots_in side table.rows)) q))))))))
        ∙ entries_of (contents_of (slots_in side table.rows)) (contents_rise (slots_in side table.rows) (slots_rise side table.rows a.rise)))

  module _ (table : Contents Cell) (a : AreInSlots table) (left : List (List ℕ × Option (List ℕ))) (pairs : List (List ℕ × List ℕ)) (none : left ≡ []) (so_far : pairs ++ pairs_in left ≡ committed_pairs (slots_in side table.rows)) where
    rise : KeysRise (rows_of no_queues (slots_in side table.rows))
    rise = slots_rise side table.rows a.rise

    all_pairs : pairs ≡ committed_pairs (slots_in side table.rows)
    all_pairs = sym (ap (λ es. pairs ++ pairs_in es) none ∙ append-nil pairs) ∙ so_far

    pub pairs_rise : KeysRise pairs
    pairs_rise = rw all_pairs (sorted_entries committed (slots_in side table.rows) rise)

    pub pairs_hold : (queues : Queues) (q : List ℕ) → map_of.get (database_of pairs) q ≡ stored (record_of (rows_of queues (slots_in side table.rows)) q)
    pairs_hold queues q =
        get-from_list key_order pairs q ∙ ap (find key_cmp q) all_pairs ∙ find_entry committed (slots_in side table.rows) q rise ∙ stored_in queues (slot_of (slots_in side table.rows) q) ∙ ap stored (sym (find_row queues (slots_in side table.rows) q))

-- what is committed, whichever side the open set is on
pub committed_any : (side : Side) (rows : List (TableRow Cell)) → committed_pairs (slots_in First rows) ≡ committed_pairs (slots_in side rows)
committed_any side [] = refl
committed_any side (row ∷ rows) = ap (with_optional_entry row.0 (committed (slot_with First row.1.0 row.0 row.1.1))) (committed_any side rows)
