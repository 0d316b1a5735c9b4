-- What the end of a transaction leaves of the records.
use Rattle.std.proofs.Common.{◌≡◌, ℕ, ◌==◌, List, [], ◌∷◌, ◌++◌, map, Option, Some, None, is_some, refl, sym, ap, subst, ◌∙◌, cond, true, false, Bool, not, ◌||◌, ◌&&◌, arith}
use Rattle.std.proofs.lemmas.Bool.Decides.{nat_tests}
use Rattle.std.specs.Prelude.{MatchBool, filter}
use Rattle.std.specs.List.{list_all}
use Rattle.std.specs.FinMap.{is_sorted}
use Rattle.std.specs.FinMap.Entries.{is_some-find, below_all}
use Rattle.std.specs.Ordering.{is_lt}
use Rattle.pc_types.specs.declared.Write.{Write}
use Rattle.pc_model.specs.Maps as map_of
use Rattle.pc_model.specs.Database.{Database, KeysRise, key_cmp, same_bytes, written}
use Rattle.pc_model.specs.Points.{is_among, with_keys}
use Rattle.pc_model.specs.Log.{state_at}
use Rattle.pc_model.specs.History.{History, contents, log_of, point_of}
use Rattle.pc_types.specs.declared.Request.{Request}
use Rattle.pc_model.specs.Locks.{Queue, are_compatible, queue_of, queue_without, granted_behind}
use Rattle.pc_model.specs.Queues.{AllWait, IsSettledBehind, IsSettled, stands_in, grant}
use Rattle.pc_model.specs.Replies.{open_set, closed_set}
use Rattle.pc_model.proofs.CountLaws.{below_apart, and_both}
use Rattle.pc_model.proofs.JoinLaws.{one_key}
use Rattle.pc_records.specs.Rows.{Row, Record, record_of, stored, is_in_open_set, is_in_closed_set, at_point, requests_on}
use Rattle.pc_records.specs.RowSteps.{with_row, released, released_rows, committed_record, written_row}
use Rattle.pc_records.specs.Following.{AreRecords, stands_kept}
use Rattle.pc_records.proofs.Keeping.{stored-if, requests-if, open-if, closed-if, point-if, kept-if}
use Rattle.pc_records.proofs.DistinctLaws.{among_with_keys}

-- a queue in which the transaction has no request stays as it is without it
none_removed : (queue : Queue) (t : ℕ) → stands_in queue t ≡ false → filter (λ r. not (r.transaction == t)) queue ≡ queue
none_removed [] t none = refl
none_removed (r ∷ rs) t none = grind (arith, nat_tests, none_removed rs t)

settled_stays : (before rs : Queue) → IsSettledBehind before rs → granted_behind before rs ≡ rs
settled_stays before [] s = refl
settled_stays before (r ∷ rs) s = by_grant r.granted refl s (settled_stays (before ++ r ∷ []) rs)
  where
    granted_is : r.granted ≡ true → grant r ≡ r
    granted_is e = λ i. record r { granted = sym e i }

    by_grant : (g : Bool) → r.granted ≡ g → MatchBool g ((list_all (are_compatible r) before ≡ true) × IsSettledBehind (before ++ r ∷ []) rs) ((list_all (are_compatible r) before ≡ false) × AllWait rs) →
        (IsSettledBehind (before ++ r ∷ []) rs → granted_behind (before ++ r ∷ []) rs ≡ rs) → cond (list_all (are_compatible r) before) (grant r ∷ granted_behind (before ++ grant r ∷ []) rs) (r ∷ rs) ≡ r ∷ rs
    by_grant true e s later = rw s.0 (ap (λ (q : Request). q ∷ granted_behind (before ++ q ∷ []) rs) (granted_is e) ∙ ap (λ xs. r ∷ xs) (later s.1))
    by_grant false e s later = rw s.0 refl

pub without_absent : (queue : Queue) (t : ℕ) → IsSettled queue → stands_in queue t ≡ false → queue_without queue t ≡ queue
without_absent queue t settled none = ap (granted_behind []) (none_removed queue t none) ∙ settled_stays [] queue settled.0

-- The records say this of each key: its value, what it has at the point, its requests, and whether it is in the open and in
-- the closed set.
record AreRead (rows : List Row) (content past : List ℕ → Option (List ℕ)) (queue : List ℕ → Queue) (in_open in_closed : List ℕ → Bool) : Type 0 where
  sorted : KeysRise rows
  stored : (key : List ℕ) → stored (record_of rows key) ≡ content key
  requests : (key : List ℕ) → requests_on (record_of rows key) ≡ queue key
  open_set : (key : List ℕ) → is_in_open_set (record_of rows key) ≡ in_open key
  closed_set : (key : List ℕ) → is_in_closed_set (record_of rows key) ≡ in_closed key
  point : (key : List ℕ) → is_in_closed_set (record_of rows key) ≡ true → at_point (record_of rows key) ≡ past key
  kept : (key : List ℕ) → is_some (record_of rows key) ≡ stands_kept (record_of rows key)

read_records : (base : Database) (rows : List Row) (h : History) → AreRecords base rows h → AreRead rows (map_of.get (contents base h)) (map_of.get (state_at base (log_of h) (point_of h))) (λ q. queue_of q h) (is_among (open_set h)) (is_among (closed_set h))
read_records base rows h are = record { sorted = are.sorted; stored = are.stored; requests = are.requests; open_set = are.open_set; closed_set = are.closed_set; point = are.point; kept = are.kept }

-- the record once the transaction's request is removed, if there is one
abbrev pub released_at : ℕ → Option Record → Option Record
released_at t None = None
released_at t (Some r) = released t r

-- the rows that are left still ascend, and have each key's record as it is left
below_released : (t : ℕ) (k : List ℕ) (rows : List Row) → below_all key_cmp k rows ≡ true → below_all key_cmp k (released_rows t rows) ≡ true
below_released t k [] h = refl
below_released t k (row ∷ rows) h = by_record (released t row.1) (and_both (is_lt (key_cmp k row.0)) (below_all key_cmp k rows) h).0 (below_released t k rows (and_both (is_lt (key_cmp k row.0)) (below_all key_cmp k rows) h).1)
  where
    by_record : (o : Option Record) → is_lt (key_cmp k row.0) ≡ true → below_all key_cmp k (released_rows t rows) ≡ true → below_all key_cmp k (with_row o row.0 (released_rows t rows)) ≡ true
    by_record None lt later = later
    by_record (Some r) lt later = rw (lt, later) refl

sorted_released : (t : ℕ) (rows : List Row) → is_sorted key_cmp rows ≡ true → is_sorted key_cmp (released_rows t rows) ≡ true
sorted_released t [] h = refl
sorted_released t (row ∷ rows) h =
    let parts = and_both (below_all key_cmp row.0 rows) (is_sorted key_cmp rows) h in
    by_record (released t row.1) (below_released t row.0 rows parts.0) (sorted_released t rows parts.1)
  where
    by_record : (o : Option Record) → below_all key_cmp row.0 (released_rows t rows) ≡ true → is_sorted key_cmp (released_rows t rows) ≡ true → is_sorted key_cmp (with_row o row.0 (released_rows t rows)) ≡ true
    by_record None below later = later
    by_record (Some r) below later = rw (below, later) refl

pub rise_released : (t : ℕ) (rows : List Row) → KeysRise rows → KeysRise (released_rows t rows)
rise_released t rows rise = sorted_released t rows rise

pub found_released : (t : ℕ) (rows : List Row) (q : List ℕ) → is_sorted key_cmp rows ≡ true → record_of (released_rows t rows) q ≡ released_at t (record_of rows q)
found_released t [] q h = refl
found_released t (row ∷ rows) q h =
    let parts = and_both (below_all key_cmp row.0 rows) (is_sorted key_cmp rows) h in
    by_match (same_bytes q row.0) refl parts.0 (found_released t rows q parts.1)
  where
    none_of : {A : Type 0} (o : Option A) → is_some o ≡ false → o ≡ None
    none_of None e = refl
    none_of (Some x) e = cc

    skipped : (o : Option Record) → same_bytes q row.0 ≡ true → record_of (released_rows t rows) q ≡ None → record_of (with_row o row.0 (released_rows t rows)) q ≡ o
    skipped None same none = none
    skipped (Some r) same none = rw same refl

    passed : (o : Option Record) → same_bytes q row.0 ≡ false → record_of (with_row o row.0 (released_rows t rows)) q ≡ record_of (released_rows t rows) q
    passed None same = refl
    passed (Some r) same = rw same refl

    by_match : (b : Bool) → same_bytes q row.0 ≡ b → below_all key_cmp row.0 rows ≡ true → record_of (released_rows t rows) q ≡ released_at t (record_of rows q) →
        record_of (with_row (released t row.1) row.0 (released_rows t rows)) q ≡ released_at t (cond b (Some row.1) (record_of rows q))
    by_match true same below later = skipped (released t row.1) same (later ∙ ap (released_at t) (ap (record_of rows) (one_key q row.0 same) ∙ none_of _ (is_some-find key_cmp row.0 rows ∙ below_apart row.0 rows below)))
    by_match false same below later = passed (released t row.1) same ∙ later

-- What a record says once the request is removed.
module _ (t : ℕ) where
  pub stored-released : (o : Option Record) → stored (released_at t o) ≡ stored o
  stored-released o = grind (arith, stored-if)

  pub open-released : (o : Option Record) → is_in_open_set (released_at t o) ≡ is_in_open_set o
  open-released o = grind (arith, open-if)

  pub closed-released : (o : Option Record) → is_in_closed_set (released_at t o) ≡ is_in_closed_set o
  closed-released o = grind (arith, closed-if)

  point-released : (o : Option Record) → is_in_closed_set o ≡ true → at_point (released_at t o) ≡ at_point o
  point-released o closed = grind (arith, point-if)

  requests-released : (o : Option Record) → IsSettled (requests_on o) → requests_on (released_at t o) ≡ queue_without (requests_on o) t
  requests-released o settled = grind (arith, requests-if, without_absent)

  kept-released : (o : Option Record) → is_some o ≡ stands_kept o → is_some (released_at t o) ≡ stands_kept (released_at t o)
  kept-released o kept = grind (arith, kept-if)

released_read : (t : ℕ) (rows : List Row) (content past : List ℕ → Option (List ℕ)) (queue : List ℕ → Queue) (in_open in_closed : List ℕ → Bool) → ((q : List ℕ) → IsSettled (queue q)) → AreRead rows content past queue in_open in_closed →
    AreRead (released_rows t rows) content past (λ q. queue_without (queue q) t) in_open in_closed
released_read t rows content past queue in_open in_closed settled are =
    record {
      sorted = rise_released t rows are.sorted;
      stored = λ q. ap stored (found q) ∙ stored-released t (record_of rows q) ∙ are.stored q;
      requests = λ q. ap requests_on (found q) ∙ requests-released t (record_of rows q) (subst IsSettled (sym (are.requests q)) (settled q)) ∙ ap (λ u. queue_without u t) (are.requests q);
      open_set = λ q. ap is_in_open_set (found q) ∙ open-released t (record_of rows q) ∙ are.open_set q;
      closed_set = λ q. ap is_in_closed_set (found q) ∙ closed-released t (record_of rows q) ∙ are.closed_set q;
      point = λ q closed. ap at_point (found q) ∙ point-released t (record_of rows q) (was_closed q closed) ∙ are.point q (was_closed q closed);
      kept = λ q. ap is_some (found q) ∙ kept-released t (record_of rows q) (are.kept q) ∙ ap stands_kept (sym (found q));
    }
  where
    found : (q : List ℕ) → record_of (released_rows t rows) q ≡ released_at t (record_of rows q)
    found q = found_released t rows q are.sorted

    was_closed : (q : List ℕ) → is_in_closed_set (record_of (released_rows t rows) q) ≡ true → is_in_closed_set (record_of rows q) ≡ true
    was_closed q closed = sym (ap is_in_closed_set (found q) ∙ closed-released t (record_of rows q)) ∙ closed

-- the record once this is committed of its key, if there is one
abbrev pub given_at : Option (Option (List ℕ)) → Option Record → Option Record
given_at o None = None
given_at o (Some r) = Some (committed_record o r)

-- what a key has once this is committed of it: nothing, and then what it had, or a value or absence
abbrev pub now_or : Option (Option (List ℕ)) → Option (List ℕ) → Option (List ℕ)
now_or None there = there
now_or (Some value) there = value

module _ (committed : List ℕ → Option (Option (List ℕ))) where
  below_written : (key : List ℕ) (rows : List Row) → below_all key_cmp key (map (written_row committed) rows) ≡ below_all key_cmp key rows
  below_written key [] = refl
  below_written key (row ∷ rows) = ap (λ b. is_lt (key_cmp key row.0) && b) (below_written key rows)

  sorted_written : (rows : List Row) → is_sorted key_cmp (map (written_row committed) rows) ≡ is_sorted key_cmp rows
  sorted_written [] = refl
  sorted_written (row ∷ rows) = rw (below_written row.0 rows, sorted_written rows) refl

  pub rise_written : (rows : List Row) → KeysRise rows → KeysRise (map (written_row committed) rows)
  rise_written rows rise = sorted_written rows ∙ rise

  pub found_written : (rows : List Row) (q : List ℕ) → record_of (map (written_row committed) rows) q ≡ given_at (committed q) (record_of rows q)
  found_written [] q = refl
  found_written (row ∷ rows) q = by_match (same_bytes q row.0) refl (found_written rows q)
    where
      by_match : (b : Bool) → same_bytes q row.0 ≡ b → record_of (map (written_row committed) rows) q ≡ given_at (committed q) (record_of rows q) →
          cond b (Some (committed_record (committed row.0) row.1)) (record_of (map (written_row committed) rows) q) ≡ given_at (committed q) (cond b (Some row.1) (record_of rows q))
      by_match true same later = ap (λ k. Some (committed_record (committed k) row.1)) (sym (one_key q row.0 same))
      by_match false same later = later

-- what a record says once this is committed of its key
stored-given : (o : Option (Option (List ℕ))) (r : Option Record) → (is_some o ≡ true → is_some r ≡ true) → stored (given_at o r) ≡ now_or o (stored r)
stored-given o r there = grind arith

requests-given : (o : Option (Option (List ℕ))) (r : Option Record) → requests_on (given_at o r) ≡ requests_on r
requests-given o r = grind arith

open-given : (o : Option (Option (List ℕ))) (r : Option Record) → (is_some o ≡ true → is_some r ≡ true) → is_in_open_set (given_at o r) ≡ (is_in_open_set r || is_some o)
open-given o r there = grind arith

closed-given : (o : Option (Option (List ℕ))) (r : Option Record) → is_in_closed_set (given_at o r) ≡ is_in_closed_set r
closed-given o r = grind arith

point-given : (o : Option (Option (List ℕ))) (r : Option Record) → is_in_closed_set r ≡ true → at_point (given_at o r) ≡ at_point r
point-given o r closed = grind arith

kept-given : (o : Option (Option (List ℕ))) (r : Option Record) → is_some r ≡ stands_kept r → is_some (given_at o r) ≡ stands_kept (given_at o r)
kept-given o r kept = grind arith

written_read : (committed : List ℕ → Option (Option (List ℕ))) (rows : List Row) (content past : List ℕ → Option (List ℕ)) (queue : List ℕ → Queue) (in_open in_closed : List ℕ → Bool) → ((q : List ℕ) → is_some (committed q) ≡ true → is_some (record_of rows q) ≡ true) →
    AreRead rows content past queue in_open in_closed → AreRead (map (written_row committed) rows) (λ q. now_or (committed q) (content q)) past queue (λ q. in_open q || is_some (committed q)) in_closed
written_read committed rows content past queue in_open in_closed there are =
    record {
      sorted = rise_written committed rows are.sorted;
      stored = λ q. ap stored (found q) ∙ stored-given (committed q) (record_of rows q) (there q) ∙ ap (now_or (committed q)) (are.stored q);
      requests = λ q. ap requests_on (found q) ∙ requests-given (committed q) (record_of rows q) ∙ are.requests q;
      open_set = λ q. ap is_in_open_set (found q) ∙ open-given (committed q) (record_of rows q) (there q) ∙ ap (λ b. b || is_some (committed q)) (are.open_set q);
      closed_set = λ q. ap is_in_closed_set (found q) ∙ closed-given (committed q) (record_of rows q) ∙ are.closed_set q;
      point = λ q closed. ap at_point (found q) ∙ point-given (committed q) (record_of rows q) (was_closed q closed) ∙ are.point q (was_closed q closed);
      kept = λ q. ap is_some (found q) ∙ kept-given (committed q) (record_of rows q) (are.kept q) ∙ ap stands_kept (sym (found q));
    }
  where
    found : (q : List ℕ) → record_of (map (written_row committed) rows) q ≡ given_at (committed q) (record_of rows q)
    found q = found_written committed rows q

    was_closed : (q : List ℕ) → is_in_closed_set (record_of (map (written_row committed) rows) q) ≡ true → is_in_closed_set (record_of rows q) ≡ true
    was_closed q closed = sym (ap is_in_closed_set (found q) ∙ closed-given (committed q) (record_of rows q)) ∙ closed

-- the transaction with these writes was committed, and of each of their keys this
pub released_records : (base : Database) (rows : List Row) (h after : History) (ws : List Write) (committed : List ℕ → Option (Option (List ℕ))) (n : ℕ) → ((q : List ℕ) → is_some (committed q) ≡ is_some (written ws q)) → ((q : List ℕ) → IsSettled (queue_of q h)) → ((q : List ℕ) → is_some (written ws q) ≡ true → stands_in (queue_of q h) n ≡ true) →
    ((q : List ℕ) → map_of.get (contents base after) q ≡ now_or (committed q) (map_of.get (contents base h) q)) → ((q : List ℕ) → queue_of q after ≡ queue_without (queue_of q h) n) → open_set after ≡ with_keys (open_set h) ws →
    closed_set after ≡ closed_set h → ((q : List ℕ) → is_among (closed_set h) q ≡ true → map_of.get (state_at base (log_of after) (point_of after)) q ≡ map_of.get (state_at base (log_of h) (point_of h)) q) →
    AreRecords base rows h → AreRecords base (released_rows n (map (written_row committed) rows)) after
released_records base rows h after ws committed n own settled held cs qs keys ls ps are =
    record {
      sorted = read.sorted;
      stored = λ q. read.stored q ∙ sym (cs q);
      requests = λ q. read.requests q ∙ sym (qs q);
      open_set = λ q. read.open_set q ∙ ap (λ b. is_among (open_set h) q || b) (own q) ∙ sym (among_with_keys (open_set h) ws q) ∙ ap (λ ks. is_among ks q) (sym keys);
      closed_set = λ q. read.closed_set q ∙ ap (λ ks. is_among ks q) (sym ls);
      point = λ q closed. read.point q closed ∙ sym (ps q (sym (read.closed_set q) ∙ closed));
      kept = read.kept;
    }
  where
    some_then : (o : Option Record) → stands_in (requests_on o) n ≡ true → is_some o ≡ true
    some_then None e = cc
    some_then (Some r) e = refl

    there : (q : List ℕ) → is_some (committed q) ≡ true → is_some (record_of rows q) ≡ true
    there q e = some_then (record_of rows q) (ap (λ u. stands_in u n) (are.requests q) ∙ held q (sym (own q) ∙ e))

    read : AreRead (released_rows n (map (written_row committed) rows)) (λ q. now_or (committed q) (map_of.get (contents base h) q)) (map_of.get (state_at base (log_of h) (point_of h))) (λ q. queue_without (queue_of q h) n) (λ q. is_among (open_set h) q || is_some (committed q)) (is_among (closed_set h))
    read = released_read n (map (written_row committed) rows) _ _ _ _ _ settled (written_read committed rows _ _ _ _ _ there (read_records base rows h are))

-- the transaction was aborted
pub let_go_records : (base : Database) (rows : List Row) (h after : History) (n : ℕ) → ((q : List ℕ) → IsSettled (queue_of q h)) → contents base after ≡ contents base h → ((q : List ℕ) → queue_of q after ≡ queue_without (queue_of q h) n) →
    open_set after ≡ open_set h → closed_set after ≡ closed_set h → ((q : List ℕ) → is_among (closed_set h) q ≡ true → map_of.get (state_at base (log_of after) (point_of after)) q ≡ map_of.get (state_at base (log_of h) (point_of h)) q) →
    AreRecords base rows h → AreRecords base (released_rows n rows) after
let_go_records base rows h after n settled cs qs ws ls ps are =
    record {
      sorted = read.sorted;
      stored = λ q. read.stored q ∙ ap (λ db. map_of.get db q) (sym cs);
      requests = λ q. read.requests q ∙ sym (qs q);
      open_set = λ q. read.open_set q ∙ ap (λ ks. is_among ks q) (sym ws);
      closed_set = λ q. read.closed_set q ∙ ap (λ ks. is_among ks q) (sym ls);
      point = λ q closed. read.point q closed ∙ sym (ps q (sym (read.closed_set q) ∙ closed));
      kept = read.kept;
    }
  where
    read : AreRead (released_rows n rows) (map_of.get (contents base h)) (map_of.get (state_at base (log_of h) (point_of h))) (λ q. queue_without (queue_of q h) n) (is_among (open_set h)) (is_among (closed_set h))
    read = released_read n rows _ _ _ _ _ settled (read_records base rows h are)
