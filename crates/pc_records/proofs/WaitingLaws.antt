-- The rows say whether a transaction waits, and its writes are under its locks.
use Rattle.std.proofs.Common.{◌≡◌, ℕ, List, [], ◌∷◌, Option, Some, None, is_some, refl, sym, ap, ◌∙◌, cond, true, false, Bool, ◌||◌, arith}
use Rattle.std.specs.FinMap.{is_sorted}
use Rattle.std.specs.FinMap.Entries.{is_some-find, below_all}
use Rattle.std.proofs.lemmas.Cmp.{eq_by_cmp_equiv}
use Rattle.pc_model.specs.Database.{Database, key_cmp, key_order, same_bytes, written}
use Rattle.pc_model.specs.History.{History, is_open, transaction_number_of, writes_of}
use Rattle.pc_types.specs.declared.Mode.TheVariants.{Exclusive}
use Rattle.pc_types.specs.declared.Request.{Request}
use Rattle.pc_model.specs.Locks.{queue_of, request_in, is_ungranted, waits_on, waited_for, is_waiting as waits_now}
use Rattle.pc_model.specs.Queues.{stands_in, is_granted_as}
use Rattle.pc_model.proofs.CountLaws.{below_apart, and_both}
use Rattle.pc_model.proofs.JoinLaws.{one_key}
use Rattle.pc_model.proofs.QueueLaws.{stands_is}
use Rattle.pc_model.specs.SessionLocks.{Locked}
use Rattle.pc_records.specs.Rows.{Row, Record, record_of, requests_on}
use Rattle.pc_records.specs.RowSteps.{is_waiting_in_rows}
use Rattle.pc_records.specs.Following.{AreRecords}

true_not_false : {X : Type 0} (b : Bool) → b ≡ true → b ≡ false → X
true_not_false true t f = absurd cc
true_not_false false t f = absurd cc

-- the key on which the transaction waits
record WaitsAt (rows : List Row) (t : ℕ) : Type 0 where
  key : List ℕ
  waits : is_ungranted (request_in (requests_on (record_of rows key)) t) ≡ true

-- if a key's record has a request that waits, so do the rows
waits_there : (rows : List Row) (key : List ℕ) (t : ℕ) → is_ungranted (request_in (requests_on (record_of rows key)) t) ≡ true → is_waiting_in_rows rows t ≡ true
waits_there [] key t waits = cc
waits_there (row ∷ rows) key t waits = grind (arith, waits_there rows key t)

-- a key's record is the only row of the key, so what waits in a row waits in its key's record
waits_somewhere : (rows : List Row) (t : ℕ) → is_sorted key_cmp rows ≡ true → is_waiting_in_rows rows t ≡ true → WaitsAt rows t
waits_somewhere [] t rise waits = absurd cc
waits_somewhere (row ∷ rows) t rise waits =
    let parts = and_both (below_all key_cmp row.0 rows) (is_sorted key_cmp rows) rise in
    by_own (is_ungranted (request_in row.1.requests t)) refl waits (waits_somewhere rows t parts.1) (is_some-find key_cmp row.0 rows ∙ below_apart row.0 rows parts.0)
  where
    none_waits : (o : Option Record) → is_some o ≡ false → is_ungranted (request_in (requests_on o) t) ≡ false
    none_waits None e = refl
    none_waits (Some r) e = cc

    by_key : (key : List ℕ) (b : Bool) → same_bytes key row.0 ≡ b → is_some (record_of rows row.0) ≡ false → is_ungranted (request_in (requests_on (record_of rows key)) t) ≡ true →
        is_ungranted (request_in (requests_on (cond b (Some row.1) (record_of rows key))) t) ≡ true
    by_key key true e none w = true_not_false _ w (ap (λ k. is_ungranted (request_in (requests_on (record_of rows k)) t)) (one_key key row.0 e) ∙ none_waits (record_of rows row.0) none)
    by_key key false e none w = w

    by_own : (b : Bool) → is_ungranted (request_in row.1.requests t) ≡ b → (b || is_waiting_in_rows rows t) ≡ true → (is_waiting_in_rows rows t ≡ true → WaitsAt rows t) → is_some (record_of rows row.0) ≡ false → WaitsAt (row ∷ rows) t
    by_own true own e later none =
        record {
          key = row.0;
          waits = ap (λ b. is_ungranted (request_in (requests_on (cond b (Some row.1) (record_of rows row.0))) t)) ((eq_by_cmp_equiv key_order.total).refl row.0) ∙ own;
        }
    by_own false own e later none = let there = later e in record { key = there.key; waits = by_key there.key (same_bytes there.key row.0) refl none there.waits }

-- an open session's transaction waits in the rows if it waits in the history
pub waiting_now : (base : Database) (rows : List Row) (h : History) (s : ℕ) → Locked h → AreRecords base rows h → is_open s h ≡ true → is_waiting_in_rows rows (transaction_number_of s h) ≡ waits_now s h
waiting_now base rows h s locked are opened = by_rows (is_waiting_in_rows rows (transaction_number_of s h)) refl
  where
    at_key : (key : List ℕ) → is_ungranted (request_in (requests_on (record_of rows key)) (transaction_number_of s h)) ≡ is_ungranted (request_in (queue_of key h) (transaction_number_of s h))
    at_key key = ap (λ u. is_ungranted (request_in u (transaction_number_of s h))) (are.requests key)

    known : WaitsAt rows (transaction_number_of s h) → true ≡ waits_on s h (waited_for s h)
    known there =
        let waits : is_ungranted (request_in (queue_of there.key h) (transaction_number_of s h)) ≡ true = sym (at_key there.key) ∙ there.waits in
        sym (ap (waits_on s h) (locked.waits s there.key opened waits) ∙ waits)

    idle : is_waiting_in_rows rows (transaction_number_of s h) ≡ false → (o : Option (List ℕ)) → false ≡ waits_on s h o
    idle none None = refl
    idle none (Some key) = by_waits (is_ungranted (request_in (queue_of key h) (transaction_number_of s h))) refl
      where
        by_waits : (b : Bool) → is_ungranted (request_in (queue_of key h) (transaction_number_of s h)) ≡ b → false ≡ b
        by_waits true e = true_not_false _ (waits_there rows key (transaction_number_of s h) (at_key key ∙ e)) none
        by_waits false e = refl

    by_rows : (b : Bool) → is_waiting_in_rows rows (transaction_number_of s h) ≡ b → b ≡ waits_now s h
    by_rows true e = known (waits_somewhere rows (transaction_number_of s h) are.sorted e)
    by_rows false e = idle e (waited_for s h)

-- each key that an open session has written is one that its transaction has requested
pub held_writes : (h : History) (s : ℕ) → Locked h → is_open s h ≡ true → (q : List ℕ) → is_some (written (writes_of s h) q) ≡ true → stands_in (queue_of q h) (transaction_number_of s h) ≡ true
held_writes h s locked opened q wrote = sym (stands_is (queue_of q h) (transaction_number_of s h)) ∙ some_held (request_in (queue_of q h) (transaction_number_of s h)) (locked.writes s q opened wrote)
  where
    some_held : (o : Option Request) → is_granted_as Exclusive o ≡ true → is_some o ≡ true
    some_held None e = cc
    some_held (Some r) e = refl
