-- The rows in the slots that were passed: each slot that is passed adds its row, if it has one, and in the end they are all.
use Rattle.std.proofs.Common.{◌≡◌, ◌≢◌, ℕ, ◌+◌, List, [], Option, Some, None, option_map, Bool, true, false, cond, nat_lt, refl, sym, ap, ◌∙◌, arith}
use Rattle.std.specs.FinMap.{find, put}
use Rattle.std.specs.FinMap.Entries.{find-put}
use Rattle.std.proofs.lemmas.Bool.{eqb-false, lt-ltb, le-ltb, ltb-true, ltb-false}
use Rattle.pc_model.specs.Database.{key_cmp, key_order, same_bytes}
use Rattle.pc_model.proofs.JoinLaws.{one_key}
use Rattle.pc_model.proofs.RisingLaws.{Rise}
use Rattle.pc_table.specs.Rows.{Contents, slot_of, in_slot, AreInSlots}
use Rattle.pc_table.specs.Passing.{rows_below}
use Rattle.pc_table.proofs.RowLaws.{no_row, same_rows, rise_filtered, rise_put, passing, find_filtered, found_has, place_key}

-- one more than n is above what n is above, and above n
below_more : (m n : ℕ) → m ≢ n → nat_lt m (n + 1) ≡ nat_lt m n
below_more m n d = by (nat_lt m n) refl
  where
    by : (t : Bool) → nat_lt m n ≡ t → nat_lt m (n + 1) ≡ t
    by true t = lt-ltb m (n + 1) (let h = ltb-true m n t in omega (arith, h))
    by false t = le-ltb m (n + 1) (let h = ltb-false m n t in omega (arith, h, d))

module _ {T : Type 0} (table : Contents T) (a : AreInSlots table) where
  passed_rise : (n : ℕ) → Rise (rows_below table n)
  passed_rise n = rise_filtered (λ row. nat_lt row.1.0 n) table.rows a.rise

  passed_found : (n : ℕ) (q : List ℕ) → find key_cmp q (rows_below table n) ≡ passing (λ row. nat_lt row.1.0 n) q (find key_cmp q table.rows)
  passed_found n q = find_filtered (λ row. nat_lt row.1.0 n) q table.rows a.rise

  pub none_passed : rows_below table 0 ≡ []
  none_passed = same_rows (rows_below table 0) [] (passed_rise 0) refl (λ q. passed_found 0 q ∙ by q (find key_cmp q table.rows))
    where
      by : (q : List ℕ) (o : Option (ℕ × T)) → passing (λ row. nat_lt row.1.0 0) q o ≡ None
      by q None = refl
      by q (Some p) = ap (λ t. cond t (Some p) None) (le-ltb p.0 0 (omega arith))

  -- a slot that has a row is passed
  pub row_passed : (n : ℕ) (key : List ℕ) (x : T) → in_slot table.rows n ≡ Some (key, x) → rows_below table (n + 1) ≡ put key_cmp key (n, x) (rows_below table n)
  row_passed n key x e =
      same_rows (rows_below table (n + 1)) (put key_cmp key (n, x) (rows_below table n)) (passed_rise (n + 1)) (rise_put (rows_below table n) key (n, x) (passed_rise n))
      (λ q. passed_found (n + 1) q ∙ (by q (same_bytes q key) (find key_cmp q table.rows) refl refl ∙ (ap (cond (same_bytes q key) (Some (n, x))) (sym (passed_found n q)) ∙ sym (find-put key_cmp key_order.total q key (n, x) (rows_below table n)))))
    where
      found : find key_cmp key table.rows ≡ Some (n, x)
      found = (a.each n key x).0 e

      slot : slot_of table.rows key ≡ Some n
      slot = ap (option_map (λ (place : ℕ × T). place.0)) found

      by : (q : List ℕ) (b : Bool) (o : Option (ℕ × T)) → same_bytes q key ≡ b → find key_cmp q table.rows ≡ o → passing (λ row. nat_lt row.1.0 (n + 1)) q o ≡ cond b (Some (n, x)) (passing (λ row. nat_lt row.1.0 n) q o)
      by q true o b f = ap (passing (λ row. nat_lt row.1.0 (n + 1)) q) (sym f ∙ (ap (λ k. find key_cmp k table.rows) (one_key q key b) ∙ found)) ∙ ap (λ t. cond t (Some (n, x)) None) (lt-ltb n (n + 1) (omega arith))
      by q false None b f = refl
      by q false (Some p) b f = ap (λ t. cond t (Some p) None) (below_more p.0 n (eqb-false p.0 n (place_key table key n a slot q p f ∙ b)))

  -- a slot that has no row is passed
  pub gap_passed : (n : ℕ) → in_slot table.rows n ≡ None → rows_below table (n + 1) ≡ rows_below table n
  gap_passed n e = same_rows (rows_below table (n + 1)) (rows_below table n) (passed_rise (n + 1)) (passed_rise n) (λ q. passed_found (n + 1) q ∙ (by q (find key_cmp q table.rows) refl ∙ sym (passed_found n q)))
    where
      by : (q : List ℕ) (o : Option (ℕ × T)) → find key_cmp q table.rows ≡ o → passing (λ row. nat_lt row.1.0 (n + 1)) q o ≡ passing (λ row. nat_lt row.1.0 n) q o
      by q None f = refl
      by q (Some p) f = ap (λ t. cond t (Some p) None) (below_more p.0 n (λ i. no_row (sym (ap (in_slot table.rows) i ∙ e) ∙ (a.each p.0 q p.1).1 f)))

  -- each slot was passed
  pub all_passed : rows_below table table.capacity ≡ table.rows
  all_passed = same_rows (rows_below table table.capacity) table.rows (passed_rise table.capacity) a.rise (λ q. passed_found table.capacity q ∙ by q (find key_cmp q table.rows) refl)
    where
      by : (q : List ℕ) (o : Option (ℕ × T)) → find key_cmp q table.rows ≡ o → passing (λ row. nat_lt row.1.0 table.capacity) q o ≡ o
      by q None f = refl
      by q (Some p) f = ap (λ t. cond t (Some p) None) (lt-ltb p.0 table.capacity (a.below p.0 (found_has table.rows p.0 q p.1 f)))
