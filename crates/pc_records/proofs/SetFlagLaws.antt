-- What each change of the rows leaves of the values, and of the open and the closed set.
use Rattle.std.proofs.Common.{◌≡◌, ℕ, List, map, Option, Some, None, is_some, refl, sym, ap, ◌∙◌, cond, true, false, Bool, arith}
use Rattle.std.specs.Prelude.{◌⊎◌}
use Rattle.std.specs.FinMap.{put as put_entry}
use Rattle.std.specs.FinMap.Entries.{find-put}
use Rattle.pc_types.specs.declared.Mode.{Mode}
use Rattle.pc_model.specs.Database.{KeysRise, key_cmp, key_order, same_bytes}
use Rattle.pc_types.specs.declared.Outcome.{Outcome}
use Rattle.pc_model.specs.Locks.{Queue, queue_after}
use Rattle.pc_types.specs.declared.Outcome.TheVariants.{Granted, Queued, Died}
use Rattle.pc_model.proofs.JoinLaws.{one_key}
use Rattle.pc_model.proofs.MapLaws.{find-without}
use Rattle.pc_records.specs.Rows.{Row, Record, record_of, stored, is_in_open_set, is_in_closed_set, requests_on}
use Rattle.pc_records.specs.RowSteps.{with_requests, rows_after, released_rows, written_row, closed_row, record_after_take, with_left, left_rows}
use Rattle.pc_records.proofs.FollowingLaws.{stored-with, open-with, closed-with}
use Rattle.pc_records.proofs.ReleaseLaws.{found_released, stored-released, open-released, closed-released, found_written}
use Rattle.pc_records.proofs.CycleLaws.{found_closed, stored-left, open-left, closed-left}
use Rattle.pc_records.specs.RowSets.{HaveSameContents}

pub same_sets : (rows : List Row) → HaveSameContents rows rows
same_sets rows = record { value = λ q. refl; open_set = λ q. refl; closed_set = λ q. refl }

placed_sets : (rows : List Row) (k : List ℕ) (queue : Queue) → HaveSameContents rows (put_entry key_cmp k (with_requests (record_of rows k) queue) rows)
placed_sets rows k queue = record { value = λ q. by stored (stored-with (record_of rows k) queue) q; open_set = λ q. by is_in_open_set (open-with (record_of rows k) queue) q; closed_set = λ q. by is_in_closed_set (closed-with (record_of rows k) queue) q }
  where
    new : Record
    new = with_requests (record_of rows k) queue

    by : {X : Type 0} (f : Option Record → X) → f (Some new) ≡ f (record_of rows k) → (q : List ℕ) → f (record_of (put_entry key_cmp k new rows) q) ≡ f (record_of rows q)
    by f e q = ap f (find-put key_cmp key_order.total q k new rows) ∙ by_test (same_bytes q k) refl
      where
        by_test : (b : Bool) → same_bytes q k ≡ b → f (cond b (Some new) (record_of rows q)) ≡ f (record_of rows q)
        by_test true is = e ∙ ap (λ x. f (record_of rows x)) (sym (one_key q k is))
        by_test false is = refl

-- a request leaves the values and both sets
pub asked_sets : (rows : List Row) (k : List ℕ) (n : ℕ) (mode : Mode) (o : Outcome) → HaveSameContents rows (rows_after rows k n mode o)
asked_sets rows k n x Granted = placed_sets rows k (queue_after (requests_on (record_of rows k)) n x Granted)
asked_sets rows k n x Queued = placed_sets rows k (queue_after (requests_on (record_of rows k)) n x Queued)
asked_sets rows k n x Died = same_sets rows

-- a release leaves the values and both sets
pub released_sets : (t : ℕ) (rows : List Row) → KeysRise rows → HaveSameContents rows (released_rows t rows)
released_sets t rows rise = record { value = λ q. ap stored (found_released t rows q rise) ∙ stored-released t (record_of rows q); open_set = λ q. ap is_in_open_set (found_released t rows q rise) ∙ open-released t (record_of rows q); closed_set = λ q. ap is_in_closed_set (found_released t rows q rise) ∙ closed-released t (record_of rows q) }

-- a commit leaves the values of other keys
pub written_value : (committed : List ℕ → Option (Option (List ℕ))) (rows : List Row) (q : List ℕ) → is_some (committed q) ≡ false → stored (record_of (map (written_row committed) rows) q) ≡ stored (record_of rows q)
written_value committed rows q none = grind (arith, found_written committed rows q)

-- a commit adds its keys to the open set, and leaves the closed one
pub written_open : (committed : List ℕ → Option (Option (List ℕ))) (rows : List Row) (q : List ℕ) → is_in_open_set (record_of (map (written_row committed) rows) q) ≡ true → (is_in_open_set (record_of rows q) ≡ true) ⊎ (is_some (committed q) ≡ true)
written_open committed rows q open_now = grind (arith, found_written committed rows q)

pub written_closed : (committed : List ℕ → Option (Option (List ℕ))) (rows : List Row) (q : List ℕ) → is_in_closed_set (record_of (map (written_row committed) rows) q) ≡ is_in_closed_set (record_of rows q)
written_closed committed rows q = grind (arith, found_written committed rows q)

-- once the open set is closed, the values are what they were
pub closed_value : (rows : List Row) (q : List ℕ) → stored (record_of (map closed_row rows) q) ≡ stored (record_of rows q)
closed_value rows q = grind (arith, found_closed rows q)

-- and the closed set is what the open one was
pub closed_sets : (rows : List Row) (q : List ℕ) → (is_in_closed_set (record_of (map closed_row rows) q) ≡ is_in_open_set (record_of rows q)) × (is_in_open_set (record_of (map closed_row rows) q) ≡ false)
closed_sets rows q = (grind (arith, found_closed rows q), grind (arith, found_closed rows q))

-- a taken key is not in the closed set, and the others are where they were
found_left : (rows : List Row) (k q : List ℕ) → record_of (left_rows rows k) q ≡ cond (same_bytes q k) (record_after_take (record_of rows k)) (record_of rows q)
found_left rows k q = found_with (record_after_take (record_of rows k))
  where
    found_with : (o : Option Record) → record_of (with_left o k rows) q ≡ cond (same_bytes q k) o (record_of rows q)
    found_with None = find-without key_order k q rows
    found_with (Some r) = find-put key_cmp key_order.total q k r rows

pub left_value : (rows : List Row) (k q : List ℕ) → stored (record_of (left_rows rows k) q) ≡ stored (record_of rows q)
left_value rows k q = grind (arith, found_left rows k q, one_key q k, stored-left (record_of rows k))

pub left_open : (rows : List Row) (k q : List ℕ) → is_in_open_set (record_of (left_rows rows k) q) ≡ is_in_open_set (record_of rows q)
left_open rows k q = grind (arith, found_left rows k q, one_key q k, open-left (record_of rows k))

pub left_closed : (rows : List Row) (k q : List ℕ) → is_in_closed_set (record_of (left_rows rows k) q) ≡ true → (is_in_closed_set (record_of rows q) ≡ true) × (same_bytes q k ≡ false)
left_closed rows k q closed = (grind (arith, found_left rows k q, closed-left (record_of rows k)), grind (arith, found_left rows k q, closed-left (record_of rows k)))
