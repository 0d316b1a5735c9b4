-- The rows still ascend.
use Rattle.std.proofs.Common.{◌≡◌, ℕ, List, [], ◌∷◌, map, refl, ap, ◌∙◌, ◌&&◌, not, Option, Some, None}
use Rattle.std.specs.FinMap.{is_sorted}
use Rattle.std.specs.FinMap.Entries.{is_sorted-put, is_sorted-where_key, below_all}
use Rattle.std.specs.Ordering.{is_lt}
use Rattle.pc_model.specs.Database.{key_cmp, key_order, same_bytes, KeysRise}
use Rattle.pc_model.proofs.PairMapLaws.{computes, tested}
use Rattle.pc_records.specs.Rows.{Row, Record, record_of}
use Rattle.pc_records.specs.RowSteps.{committed_row, closed_row, record_after_take, with_left, left_rows}

-- rows of pairs ascend as the pairs do
below_rows : (key : List ℕ) (pairs : List (List ℕ × List ℕ)) → below_all key_cmp key (map committed_row pairs) ≡ below_all key_cmp key pairs
below_rows key [] = refl
below_rows key (p ∷ pairs) = ap (λ b. is_lt (key_cmp key p.0) && b) (below_rows key pairs)

sorted_rows : (pairs : List (List ℕ × List ℕ)) → is_sorted key_cmp (map committed_row pairs) ≡ is_sorted key_cmp pairs
sorted_rows [] = refl
sorted_rows (p ∷ pairs) = rw (below_rows p.0 pairs, sorted_rows pairs) refl

pub rows_rise : (pairs : List (List ℕ × List ℕ)) → KeysRise pairs → KeysRise (map committed_row pairs)
rows_rise pairs rise = sorted_rows pairs ∙ rise

-- and so do rows whose keys are the same
below_closed : (key : List ℕ) (rows : List Row) → below_all key_cmp key (map closed_row rows) ≡ below_all key_cmp key rows
below_closed key [] = refl
below_closed key (row ∷ rows) = ap (λ b. is_lt (key_cmp key row.0) && b) (below_closed key rows)

sorted_closed : (rows : List Row) → is_sorted key_cmp (map closed_row rows) ≡ is_sorted key_cmp rows
sorted_closed [] = refl
sorted_closed (row ∷ rows) = rw (below_closed row.0 rows, sorted_closed rows) refl

pub rise_closed : (rows new : List Row) → KeysRise rows → new ≡ map closed_row rows → KeysRise new
rise_closed rows new rise is = rw is (sorted_closed rows ∙ rise)

pub rise_left : (rows new : List Row) (key : List ℕ) → KeysRise rows → new ≡ left_rows rows key → KeysRise new
rise_left rows new key rise is = rw is (by_record (record_after_take (record_of rows key)))
  where
    by_record : (o : Option Record) → KeysRise (with_left o key rows)
    by_record None = tested (is_sorted-where_key key_cmp (λ k. not (same_bytes key k)) rows (computes rise))
    by_record (Some r) = tested (is_sorted-put key_cmp key_order.total key r rows (computes rise))
