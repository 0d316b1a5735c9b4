-- What the end of an open set, and a key taken, leave of the records.
use Rattle.std.proofs.Common.{◌≡◌, ℕ, List, [], ◌∷◌, map, Option, Some, None, is_some, refl, sym, ap, ◌∙◌, cond, true, false, Bool, not, ◌||◌}
use Rattle.std.specs.FinMap.Entries.{find-put}
use Rattle.std.proofs.lemmas.Cmp.{eq_by_cmp_equiv}
use Rattle.pc_model.specs.Maps as map_of
use Rattle.pc_model.specs.Database.{Database, key_cmp, key_order, same_bytes}
use Rattle.pc_model.specs.Points.{is_among}
use Rattle.pc_model.specs.Log.{state_at}
use Rattle.pc_model.specs.History.{History, contents, log_of, point_of}
use Rattle.pc_model.specs.Locks.{queue_of}
use Rattle.pc_model.specs.Replies.{is_empty, open_set, closed_set}
use Rattle.pc_model.proofs.JoinLaws.{one_key}
use Rattle.pc_model.proofs.MapLaws.{find-without}
use Rattle.pc_records.specs.Rows.{Row, Record, record_of, stored, is_in_open_set, is_in_closed_set, at_point, requests_on}
use Rattle.pc_records.specs.RowSteps.{closed_row, record_after_take, with_left, left_rows}
use Rattle.pc_records.specs.Following.{AreRecords, stands_kept}
use Rattle.pc_records.proofs.Keeping.{stored-if, requests-if, open-if, closed-if, kept-if}
use Rattle.pc_records.proofs.Rising.{rise_closed, rise_left}

-- the record of a key once the open set is closed
abbrev pub closed_of : Option Record → Option Record
closed_of None = None
closed_of (Some r) = Some (record r { is_in_open_set = false; is_in_closed_set = r.is_in_open_set; pinned = cond r.is_in_open_set r.value None })

pub found_closed : (rows : List Row) (q : List ℕ) → record_of (map closed_row rows) q ≡ closed_of (record_of rows q)
found_closed [] q = refl
found_closed (row ∷ rows) q =
    elim (same_bytes q row.0) as (λ b. cond b (Some (record row.1 { is_in_open_set = false; is_in_closed_set = row.1.is_in_open_set; pinned = cond row.1.is_in_open_set row.1.value None })) (record_of (map closed_row rows) q) ≡ closed_of (cond b (Some row.1) (record_of rows q))) [ true ↦ refl | false ↦ found_closed rows q ]

-- the open set was closed, and the closed set was empty before
pub closed_records : (base : Database) (rows : List Row) (h after : History) → closed_set h ≡ [] → contents base after ≡ contents base h → ((q : List ℕ) → queue_of q after ≡ queue_of q h) → open_set after ≡ [] → closed_set after ≡ open_set h →
    ((q : List ℕ) → map_of.get (state_at base (log_of after) (point_of after)) q ≡ map_of.get (contents base h) q) → AreRecords base rows h → AreRecords base (map closed_row rows) after
closed_records base rows h after none cs qs ws ls ps are =
    record {
      sorted = rise_closed rows (map closed_row rows) are.sorted refl;
      stored = λ q. ap stored (found_closed rows q) ∙ stored_by (record_of rows q) ∙ are.stored q ∙ ap (λ db. map_of.get db q) (sym cs);
      requests = λ q. ap requests_on (found_closed rows q) ∙ requests_by (record_of rows q) ∙ are.requests q ∙ sym (qs q);
      open_set = λ q. ap is_in_open_set (found_closed rows q) ∙ recent_by (record_of rows q) ∙ ap (λ ks. is_among ks q) (sym ws);
      closed_set = λ q. ap is_in_closed_set (found_closed rows q) ∙ closed_by (record_of rows q) ∙ are.open_set q ∙ ap (λ ks. is_among ks q) (sym ls);
      point = λ q closed. ap at_point (found_closed rows q) ∙ point_by (record_of rows q) (sym (ap is_in_closed_set (found_closed rows q)) ∙ closed) ∙ are.stored q ∙ sym (ps q);
      kept = λ q. ap is_some (found_closed rows q) ∙ kept_by (record_of rows q) (are.kept q) (are.closed_set q ∙ ap (λ ks. is_among ks q) none) ∙ ap stands_kept (sym (found_closed rows q));
    }
  where
    stored_by : (o : Option Record) → stored (closed_of o) ≡ stored o
    stored_by None = refl
    stored_by (Some r) = refl

    point_by : (o : Option Record) → is_in_closed_set (closed_of o) ≡ true → at_point (closed_of o) ≡ stored o
    point_by None open_now = refl
    point_by (Some r) open_now = ap (λ b. cond b r.value None) open_now

    requests_by : (o : Option Record) → requests_on (closed_of o) ≡ requests_on o
    requests_by None = refl
    requests_by (Some r) = refl

    recent_by : (o : Option Record) → is_in_open_set (closed_of o) ≡ false
    recent_by None = refl
    recent_by (Some r) = refl

    closed_by : (o : Option Record) → is_in_closed_set (closed_of o) ≡ is_in_open_set o
    closed_by None = refl
    closed_by (Some r) = refl

    turn : (a b c : Bool) → (a || (b || (c || false))) ≡ (a || (b || (false || c)))
    turn true b c = refl
    turn false true c = refl
    turn false false true = refl
    turn false false false = refl

    kept_by : (o : Option Record) → is_some o ≡ stands_kept o → is_in_closed_set o ≡ false → is_some (closed_of o) ≡ stands_kept (closed_of o)
    kept_by None e f = refl
    kept_by (Some r) e f = e ∙ ap (λ b. is_some r.value || (not (is_empty r.requests) || (r.is_in_open_set || b))) f ∙ turn (is_some r.value) (not (is_empty r.requests)) r.is_in_open_set

-- the record that a taken key has left keeps all but the closed set
pub stored-left : (o : Option Record) → stored (record_after_take o) ≡ stored o
stored-left None = refl
stored-left (Some r) = stored-if (record r { is_in_closed_set = false; pinned = None })

requests-left : (o : Option Record) → requests_on (record_after_take o) ≡ requests_on o
requests-left None = refl
requests-left (Some r) = requests-if (record r { is_in_closed_set = false; pinned = None })

pub open-left : (o : Option Record) → is_in_open_set (record_after_take o) ≡ is_in_open_set o
open-left None = refl
open-left (Some r) = open-if (record r { is_in_closed_set = false; pinned = None })

pub closed-left : (o : Option Record) → is_in_closed_set (record_after_take o) ≡ false
closed-left None = refl
closed-left (Some r) = closed-if (record r { is_in_closed_set = false; pinned = None })

kept-left : (o : Option Record) → is_some (record_after_take o) ≡ stands_kept (record_after_take o)
kept-left None = refl
kept-left (Some r) = kept-if (record r { is_in_closed_set = false; pinned = None })

-- the first key of the closed set was taken
pub left_records : (base : Database) (rows : List Row) (h after : History) (k : List ℕ) (ks : List (List ℕ)) → closed_set h ≡ k ∷ ks → is_among ks k ≡ false → contents base after ≡ contents base h → ((q : List ℕ) → queue_of q after ≡ queue_of q h) →
    open_set after ≡ open_set h → closed_set after ≡ ks → ((q : List ℕ) → is_among (closed_set h) q ≡ true → map_of.get (state_at base (log_of after) (point_of after)) q ≡ map_of.get (state_at base (log_of h) (point_of h)) q) →
    AreRecords base rows h → AreRecords base (left_rows rows k) after
left_records base rows h after k ks first once cs qs ws ls ps are =
    record {
      sorted = rise_left rows (left_rows rows k) k are.sorted refl;
      stored = λ q. ap stored (found q) ∙ by stored q (stored-left (record_of rows k)) ∙ are.stored q ∙ ap (λ db. map_of.get db q) (sym cs);
      requests = λ q. ap requests_on (found q) ∙ by requests_on q (requests-left (record_of rows k)) ∙ are.requests q ∙ sym (qs q);
      open_set = λ q. ap is_in_open_set (found q) ∙ by is_in_open_set q (open-left (record_of rows k)) ∙ are.open_set q ∙ ap (λ keys. is_among keys q) (sym ws);
      closed_set = λ q. ap is_in_closed_set (found q) ∙ closed_by q (same_bytes q k) refl ∙ ap (λ keys. is_among keys q) (sym ls);
      point = λ q closed. ap at_point (found q) ∙ point_by q (same_bytes q k) (sym (ap is_in_closed_set (found q)) ∙ closed);
      kept = λ q. ap is_some (found q) ∙ kept_by q (same_bytes q k) ∙ ap stands_kept (sym (found q));
    }
  where
    found_with : (o : Option Record) (q : List ℕ) → record_of (with_left o k rows) q ≡ cond (same_bytes q k) o (record_of rows q)
    found_with None q = find-without key_order k q rows
    found_with (Some r) q = find-put key_cmp key_order.total q k r rows

    found : (q : List ℕ) → record_of (left_rows rows k) q ≡ cond (same_bytes q k) (record_after_take (record_of rows k)) (record_of rows q)
    found q = found_with (record_after_take (record_of rows k)) q

    by : {X : Type 0} (f : Option Record → X) (q : List ℕ) → f (record_after_take (record_of rows k)) ≡ f (record_of rows k) → f (cond (same_bytes q k) (record_after_take (record_of rows k)) (record_of rows q)) ≡ f (record_of rows q)
    by f q e = by_test (same_bytes q k) refl
      where
        by_test : (b : Bool) → same_bytes q k ≡ b → f (cond b (record_after_take (record_of rows k)) (record_of rows q)) ≡ f (record_of rows q)
        by_test true is = e ∙ ap (λ x. f (record_of rows x)) (sym (one_key q k is))
        by_test false is = refl

    closed_by : (q : List ℕ) (b : Bool) → same_bytes q k ≡ b → is_in_closed_set (cond b (record_after_take (record_of rows k)) (record_of rows q)) ≡ is_among ks q
    closed_by q true is = closed-left (record_of rows k) ∙ sym once ∙ ap (is_among ks) (sym (one_key q k is))
    closed_by q false is = are.closed_set q ∙ ap (λ keys. is_among keys q) first ∙ ap (λ b. b || is_among ks q) is

    point_by : (q : List ℕ) (b : Bool) → is_in_closed_set (cond b (record_after_take (record_of rows k)) (record_of rows q)) ≡ true →
        at_point (cond b (record_after_take (record_of rows k)) (record_of rows q)) ≡ map_of.get (state_at base (log_of after) (point_of after)) q
    point_by q true closed = absurd (let no : false ≡ true = sym (closed-left (record_of rows k)) ∙ closed in cc)
    point_by q false closed = are.point q closed ∙ sym (ps q (sym (are.closed_set q) ∙ closed))

    kept_by : (q : List ℕ) (b : Bool) → is_some (cond b (record_after_take (record_of rows k)) (record_of rows q)) ≡ stands_kept (cond b (record_after_take (record_of rows k)) (record_of rows q))
    kept_by q true = kept-left (record_of rows k)
    kept_by q false = are.kept q

-- what the first key of the closed set has at the point
pub taken_value : (base : Database) (rows : List Row) (h : History) (k : List ℕ) (ks : List (List ℕ)) → closed_set h ≡ k ∷ ks → AreRecords base rows h → at_point (record_of rows k) ≡ map_of.get (state_at base (log_of h) (point_of h)) k
taken_value base rows h k ks first are = are.point k (are.closed_set k ∙ ap (λ keys. is_among keys k) first ∙ ap (λ b. b || is_among ks k) ((eq_by_cmp_equiv key_order.total).refl k))
