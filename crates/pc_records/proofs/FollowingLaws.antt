-- What each request leaves of the records.
use Rattle.std.proofs.Common.{◌≡◌, ℕ, List, [], ◌∷◌, Option, Some, is_some, refl, sym, ap, ◌∙◌, cond, true, false, Bool, arith}
use Rattle.std.specs.FinMap.{put as put_entry}
use Rattle.std.specs.FinMap.Entries.{is_sorted-put, find-put}
use Rattle.std.proofs.lemmas.Cmp.{eq_by_cmp_equiv}
use Rattle.pc_model.specs.Maps as map_of
use Rattle.pc_model.specs.Database.{Database, key_cmp, key_order, same_bytes}
use Rattle.pc_model.specs.Points.{is_among}
use Rattle.pc_model.specs.Log.{state_at}
use Rattle.pc_model.specs.History.{History, contents, log_of, point_of}
use Rattle.pc_types.specs.declared.Mode.{Mode}
use Rattle.pc_types.specs.declared.Outcome.{Outcome}
use Rattle.pc_types.specs.declared.Request.{Request}
use Rattle.pc_model.specs.Locks.{Queue, queue_of, queue_after, with_request, stronger}
use Rattle.pc_types.specs.declared.Outcome.TheVariants.{Granted, Queued, Died}
use Rattle.pc_model.specs.Replies.{is_empty, open_set, closed_set}
use Rattle.pc_model.proofs.JoinLaws.{one_key}
use Rattle.pc_model.proofs.PairMapLaws.{computes, tested}
use Rattle.pc_records.specs.Rows.{Row, Record, record_of, stored, is_in_open_set, is_in_closed_set, at_point, requests_on}
use Rattle.pc_records.specs.RowSteps.{with_requests, rows_after}
use Rattle.pc_records.specs.Following.{AreRecords, stands_kept}

pub turned_key : (a b : List ℕ) → same_bytes a b ≡ same_bytes b a
turned_key a b = (eq_by_cmp_equiv key_order.total).symm a b

-- if the database, the queues, the written keys and what the point's keys have at the point stay, so do the records
pub same_records : (base : Database) (rows : List Row) (h after : History) → contents base after ≡ contents base h → ((q : List ℕ) → queue_of q after ≡ queue_of q h) → open_set after ≡ open_set h → closed_set after ≡ closed_set h →
    ((q : List ℕ) → is_among (closed_set h) q ≡ true → map_of.get (state_at base (log_of after) (point_of after)) q ≡ map_of.get (state_at base (log_of h) (point_of h)) q) → AreRecords base rows h → AreRecords base rows after
same_records base rows h after cs qs ws ls ps are =
    record {
      sorted = are.sorted;
      stored = λ q. are.stored q ∙ ap (λ db. map_of.get db q) (sym cs);
      requests = λ q. are.requests q ∙ sym (qs q);
      open_set = λ q. are.open_set q ∙ ap (λ ks. is_among ks q) (sym ws);
      closed_set = λ q. are.closed_set q ∙ ap (λ ks. is_among ks q) (sym ls);
      point = λ q closed. are.point q closed ∙ sym (ps q (sym (are.closed_set q) ∙ closed));
      kept = are.kept;
    }

-- a record with other requests keeps the rest, and a request keeps it
pub stored-with : (r : Option Record) (queue : Queue) → stored (Some (with_requests r queue)) ≡ stored r
stored-with r queue = grind arith

pub open-with : (r : Option Record) (queue : Queue) → is_in_open_set (Some (with_requests r queue)) ≡ is_in_open_set r
open-with r queue = grind arith

pub closed-with : (r : Option Record) (queue : Queue) → is_in_closed_set (Some (with_requests r queue)) ≡ is_in_closed_set r
closed-with r queue = grind arith

point-with : (r : Option Record) (queue : Queue) → at_point (Some (with_requests r queue)) ≡ at_point r
point-with r queue = grind arith

requests-with : (r : Option Record) (queue : Queue) → requests_on (Some (with_requests r queue)) ≡ queue
requests-with r queue = grind arith

kept-with : (r : Option Record) (queue : Queue) → is_empty queue ≡ false → true ≡ stands_kept (Some (with_requests r queue))
kept-with r queue some = grind arith

-- a request, granted or waiting
placed_records : (base : Database) (rows : List Row) (h after : History) (k : List ℕ) (n : ℕ) (mode : Mode) (o : Outcome) → ((queue : Queue) → is_empty (queue_after queue n mode o) ≡ false) → contents base after ≡ contents base h →
    ((q : List ℕ) → queue_of q after ≡ cond (same_bytes k q) (queue_after (queue_of q h) n mode o) (queue_of q h)) → open_set after ≡ open_set h →
    closed_set after ≡ closed_set h → ((q : List ℕ) → is_among (closed_set h) q ≡ true → map_of.get (state_at base (log_of after) (point_of after)) q ≡ map_of.get (state_at base (log_of h) (point_of h)) q) →
    AreRecords base rows h → AreRecords base (put_entry key_cmp k (with_requests (record_of rows k) (queue_after (requests_on (record_of rows k)) n mode o)) rows) after
placed_records base rows h after k n x o stands cs qs ws ls ps are =
    record {
      sorted = tested (is_sorted-put key_cmp key_order.total k new rows (computes are.sorted));
      stored = λ q. ap stored (found q) ∙ by stored q (stored-with (record_of rows k) now) ∙ are.stored q ∙ ap (λ db. map_of.get db q) (sym cs);
      requests = λ q. ap requests_on (found q) ∙ requests_by q (same_bytes q k) refl ∙ sym (qs q);
      open_set = λ q. ap is_in_open_set (found q) ∙ by is_in_open_set q (open-with (record_of rows k) now) ∙ are.open_set q ∙ ap (λ ks. is_among ks q) (sym ws);
      closed_set = λ q. ap is_in_closed_set (found q) ∙ by is_in_closed_set q (closed-with (record_of rows k) now) ∙ are.closed_set q ∙ ap (λ ks. is_among ks q) (sym ls);
      point = λ q closed. ap at_point (found q) ∙ by at_point q (point-with (record_of rows k) now) ∙ are.point q (was_closed q closed) ∙ sym (ps q (sym (are.closed_set q) ∙ was_closed q closed));
      kept = λ q. ap is_some (found q) ∙ kept_by q (same_bytes q k) ∙ ap stands_kept (sym (found q));
    }
  where
    now : Queue
    now = queue_after (requests_on (record_of rows k)) n x o

    new : Record
    new = with_requests (record_of rows k) now

    found : (q : List ℕ) → record_of (put_entry key_cmp k new rows) q ≡ cond (same_bytes q k) (Some new) (record_of rows q)
    found q = find-put key_cmp key_order.total q k new rows

    by : {X : Type 0} (f : Option Record → X) (q : List ℕ) → f (Some new) ≡ f (record_of rows k) → f (cond (same_bytes q k) (Some new) (record_of rows q)) ≡ f (record_of rows q)
    by f q e = by_test (same_bytes q k) refl
      where
        by_test : (b : Bool) → same_bytes q k ≡ b → f (cond b (Some new) (record_of rows q)) ≡ f (record_of rows q)
        by_test true is = e ∙ ap (λ x. f (record_of rows x)) (sym (one_key q k is))
        by_test false is = refl

    was_closed : (q : List ℕ) → is_in_closed_set (record_of (put_entry key_cmp k new rows) q) ≡ true → is_in_closed_set (record_of rows q) ≡ true
    was_closed q closed = sym (ap is_in_closed_set (found q) ∙ by is_in_closed_set q (closed-with (record_of rows k) now)) ∙ closed

    requests_by : (q : List ℕ) (b : Bool) → same_bytes q k ≡ b → requests_on (cond b (Some new) (record_of rows q)) ≡ cond (same_bytes k q) (queue_after (queue_of q h) n x o) (queue_of q h)
    requests_by q true e = requests-with (record_of rows k) now ∙ rw (turned_key k q ∙ e) (ap (λ u. queue_after u n x o) (are.requests k ∙ ap (λ u. queue_of u h) (sym (one_key q k e))))
    requests_by q false e = rw (turned_key k q ∙ e) (are.requests q)

    kept_by : (q : List ℕ) (b : Bool) → is_some (cond b (Some new) (record_of rows q)) ≡ stands_kept (cond b (Some new) (record_of rows q))
    kept_by q true = kept-with (record_of rows k) now (stands (requests_on (record_of rows k)))
    kept_by q false = are.kept q

granted_stands : (queue : Queue) (request : Request) → is_empty (with_request queue request) ≡ false
granted_stands [] request = refl
granted_stands (r ∷ rs) request = by_own (Rattle.std.specs.Prelude.◌==◌ r.transaction request.transaction)
  where
    by_own : (b : Bool) → is_empty (cond b (record r { mode = stronger r.mode request.mode } ∷ rs) (r ∷ with_request rs request)) ≡ false
    by_own true = refl
    by_own false = refl

queued_stands : (queue : Queue) (n : ℕ) (mode : Mode) → is_empty (queue_after queue n mode Queued) ≡ false
queued_stands [] n x = refl
queued_stands (r ∷ rs) n x = refl

-- the transaction's request of a key was answered
pub asked_records : (base : Database) (rows : List Row) (h after : History) (k : List ℕ) (n : ℕ) (mode : Mode) (o : Outcome) → contents base after ≡ contents base h →
    ((q : List ℕ) → queue_of q after ≡ cond (same_bytes k q) (queue_after (queue_of q h) n mode o) (queue_of q h)) → open_set after ≡ open_set h →
    closed_set after ≡ closed_set h → ((q : List ℕ) → is_among (closed_set h) q ≡ true → map_of.get (state_at base (log_of after) (point_of after)) q ≡ map_of.get (state_at base (log_of h) (point_of h)) q) →
    AreRecords base rows h → AreRecords base (rows_after rows k n mode o) after
asked_records base rows h after k n x Granted cs qs ws ls ps are = placed_records base rows h after k n x Granted (λ queue. granted_stands queue (record { transaction = n; mode = x; granted = true })) cs qs ws ls ps are
asked_records base rows h after k n x Queued cs qs ws ls ps are = placed_records base rows h after k n x Queued (λ queue. queued_stands queue n x) cs qs ws ls ps are
asked_records base rows h after k n x Died cs qs ws ls ps are = same_records base rows h after cs (λ q. qs q ∙ either (same_bytes k q) (queue_of q h)) ws ls ps are
  where
    either : (b : Bool) (queue : Queue) → cond b queue queue ≡ queue
    either true queue = refl
    either false queue = refl
