-- Strict two-phase locking keeps, after every history: each queue settled, each open session its own number, and for
-- whatever an open session has read or written since its begin a lock that it holds.
use Rattle.std.specs.Prelude.{ℤ}
use Rattle.pc_types.specs.declared.Change.TheVariants.{Add}
use Rattle.pc_types.specs.declared.Change.{Change}
use Rattle.std.proofs.Common.{◌≡◌, ℕ, ◌+◌, ◌≤◌, ◌==◌, List, [], ◌∷◌, ◌++◌, Option, Some, None, is_some, Bool, true, false, ◌||◌, ◌&&◌, inl, inr, cond, refl, sym, ◌∙◌, ap, subst, arith}
use Rattle.std.proofs.lemmas.Bool.Decides.{nat_tests}
use Rattle.std.proofs.lemmas.Cmp.{eq_by_cmp_equiv}
use Rattle.pc_types.specs.declared.Mode.{Mode}
use Rattle.pc_types.specs.declared.Mode.TheVariants.{Shared, Exclusive}
use Rattle.pc_types.specs.Changes.{change_to}
use Rattle.pc_model.specs.Database.{key_order, same_bytes, written, with_write, write_of}
use Rattle.pc_model.specs.History.{History, Effect, begun, begun_by, is_open, open_by, transaction_number_of, transaction_number_by, writes_of, writes_by}
use Rattle.pc_model.specs.History.Effect.{Begins, Reads, Writes, Adds, Waits, Dies, Commits, Aborts, Moves, Takes, Shelves, Joins, Nothing}
use Rattle.pc_types.specs.declared.Request.{Request}
use Rattle.pc_model.specs.Locks.{Queue, outcome, is_exclusive, request_in, queue_of, queue_by, queue_after, queue_without, is_ungranted, waited_for, waits_by, waits_on, is_waiting}
use Rattle.pc_types.specs.declared.Outcome.TheVariants.{Granted, Queued}
use Rattle.pc_model.specs.Points.{is_among}
use Rattle.pc_model.specs.Queues.{IsSettled, stands_in, is_granted_as, holds}
use Rattle.pc_model.proofs.JoinLaws.{one_key}
use Rattle.pc_model.proofs.QueueLaws.{kept_after, kept_without}
use Rattle.pc_model.proofs.Holding.{other_with, other_push, own_with, keeps_with, keeps_push, keeps_without, waits_without, holds_waits, waits_stands, stands_with, stands_push, stands_without}
use Rattle.pc_model.proofs.WrittenKeyLaws.{held_by}
use Rattle.pc_model.specs.SessionLocks.{read_by, keys_read, IsLocked, Locked}

abbrev pub LockedBy : History → Effect → Type 0
LockedBy h e = IsLocked (λ key. queue_by key e h (queue_of key h)) (begun_by e (begun h)) (λ s. open_by s e (is_open s h)) (λ s. transaction_number_by s e (begun h) (transaction_number_of s h)) (λ s. waits_by s e h (waited_for s h)) (λ s. read_by s e (keys_read s h)) (λ s. writes_by s e (writes_of s h))

-- the session's transaction is open, and none of its requests waits
abbrev pub MayAsk : ℕ → History → Type 0
MayAsk s h = (is_open s h ≡ true) × (is_waiting s h ≡ false)

-- what a legal effect says of the locks
abbrev pub IsAllowed : History → Effect → Type 0
IsAllowed h (Begins s) = is_open s h ≡ false
IsAllowed h (Reads s key answer) = MayAsk s h × (outcome (queue_of key h) (transaction_number_of s h) Shared ≡ Granted)
IsAllowed h (Writes s key value) = MayAsk s h × (outcome (queue_of key h) (transaction_number_of s h) Exclusive ≡ Granted)
IsAllowed h (Adds s key delta sum) = MayAsk s h × (outcome (queue_of key h) (transaction_number_of s h) Exclusive ≡ Granted)
IsAllowed h (Waits s key mode) = MayAsk s h × (outcome (queue_of key h) (transaction_number_of s h) mode ≡ Queued)
IsAllowed h (Commits s) = is_open s h ≡ true
IsAllowed h (Aborts s) = is_open s h ≡ true
IsAllowed h other = Unit {0}

no_lie : {X : Type 0} → true ≡ false → X
no_lie e = absurd cc

same_session : (s t : ℕ) → (s == t) ≡ true → s ≡ t
same_session s t e = grind (arith, nat_tests)

not_turned : (s t : ℕ) → (s == t) ≡ false → (t == s) ≡ false
not_turned s t e = grind (arith, nat_tests)

turned_key : (a b : List ℕ) → same_bytes a b ≡ same_bytes b a
turned_key a b = (eq_by_cmp_equiv key_order.total).symm a b

-- a session that may ask has no request that waits
none_waits : (h : History) (s : ℕ) (key : List ℕ) → Locked h → MayAsk s h → is_ungranted (request_in (queue_of key h) (transaction_number_of s h)) ≡ false
none_waits h s key locked may = by_test (is_ungranted (request_in (queue_of key h) (transaction_number_of s h))) refl
  where
    by_test : (b : Bool) → is_ungranted (request_in (queue_of key h) (transaction_number_of s h)) ≡ b → b ≡ false
    by_test false e = refl
    by_test true e = sym e ∙ ap (waits_on s h) (sym (locked.waits s key may.0 e)) ∙ may.1

-- after a begin
begins_locked : (h : History) (s : ℕ) → is_open s h ≡ false → Locked h → LockedBy h (Begins s)
begins_locked h s closed l = record {
  settled = l.settled;
  known = λ key n stands. below n (l.known key n stands);
  numbered = λ t is. own_number t (s == t) is;
  apart = λ t u ot ou not_same. both t u (s == t) (s == u) refl refl ot ou not_same;
  waits = λ t key is w. waiting t key (s == t) is w;
  reads = λ t key is read. reading t key (s == t) is read;
  writes = λ t key is wrote. writing t key (s == t) is wrote;
}
  where
    below : (n : ℕ) → n ≤ begun h → n ≤ begun h + 1
    below n le = omega (arith, le)

    below_self : begun h + 1 ≤ begun h + 1
    below_self = omega arith

    own_number : (t : ℕ) (b : Bool) → cond b true (is_open t h) ≡ true → cond b (begun h + 1) (transaction_number_of t h) ≤ begun h + 1
    own_number t true is = below_self
    own_number t false is = below (transaction_number_of t h) (l.numbered t is)

    greater : (n : ℕ) → n ≤ begun h → (begun h + 1 == n) ≡ false
    greater n le = grind (arith, nat_tests, le)

    both : (t u : ℕ) (b c : Bool) → (s == t) ≡ b → (s == u) ≡ c → cond b true (is_open t h) ≡ true → cond c true (is_open u h) ≡ true → (t == u) ≡ false → (cond b (begun h + 1) (transaction_number_of t h) == cond c (begun h + 1) (transaction_number_of u h)) ≡ false
    both t u true true e f ot ou not_same = no_lie (sym f ∙ (ap (λ k. k == u) (same_session s t e) ∙ not_same))
    both t u true false e f ot ou not_same = greater (transaction_number_of u h) (l.numbered u ou)
    both t u false true e f ot ou not_same = not_turned (begun h + 1) (transaction_number_of t h) (greater (transaction_number_of t h) (l.numbered t ot))
    both t u false false e f ot ou not_same = l.apart t u ot ou not_same

    waiting : (t : ℕ) (key : List ℕ) (b : Bool) → cond b true (is_open t h) ≡ true → is_ungranted (request_in (queue_of key h) (cond b (begun h + 1) (transaction_number_of t h))) ≡ true → cond b None (waited_for t h) ≡ Some key
    waiting t key true is w = absurd (past (l.known key (begun h + 1) (waits_stands (queue_of key h) (begun h + 1) w)))
      where
        past : begun h + 1 ≤ begun h → ⊥
        past le = omega (arith, le)
    waiting t key false is w = l.waits t key is w

    reading : (t : ℕ) (key : List ℕ) (b : Bool) → cond b true (is_open t h) ≡ true → is_among (cond b [] (keys_read t h)) key ≡ true → holds (queue_of key h) (cond b (begun h + 1) (transaction_number_of t h)) Shared ≡ true
    reading t key true is read = cc
    reading t key false is read = l.reads t key is read

    writing : (t : ℕ) (key : List ℕ) (b : Bool) → cond b true (is_open t h) ≡ true → is_some (written (cond b [] (writes_of t h)) key) ≡ true → holds (queue_of key h) (cond b (begun h + 1) (transaction_number_of t h)) Exclusive ≡ true
    writing t key true is wrote = cc
    writing t key false is wrote = l.writes t key is wrote

-- after a request was granted, of the locks before and after
module _ (h : History) (s : ℕ) (k : List ℕ) (x : Mode) (l : Locked h) (may : MayAsk s h) (granted : outcome (queue_of k h) (transaction_number_of s h) x ≡ Granted) where
  abbrev n : ℕ
  n = transaction_number_of s h

  abbrev now : List ℕ → Queue
  now key = cond (same_bytes k key) (queue_after (queue_of key h) n x Granted) (queue_of key h)

  at_key : (key : List ℕ) → same_bytes k key ≡ true → outcome (queue_of key h) n x ≡ Granted
  at_key key e = ap (λ q. outcome (queue_of q h) n x) (sym (one_key k key e)) ∙ granted

  granted_settled_at : (key : List ℕ) → IsSettled (now key)
  granted_settled_at key = by_key (same_bytes k key) refl
    where
      by_key : (b : Bool) → same_bytes k key ≡ b → IsSettled (cond b (queue_after (queue_of key h) n x Granted) (queue_of key h))
      by_key true e = kept_after (queue_of key h) n x Granted (l.settled key) (none_waits h s key l may) (at_key key e)
      by_key false e = l.settled key

  granted_known : (key : List ℕ) (m : ℕ) → stands_in (now key) m ≡ true → m ≤ begun h
  granted_known key m stands = by_key (same_bytes k key) stands
    where
      by_key : (b : Bool) → stands_in (cond b (queue_after (queue_of key h) n x Granted) (queue_of key h)) m ≡ true → m ≤ begun h
      by_key true stands = elim (stands_with (queue_of key h) (record { transaction = n; mode = x; granted = true }) m stands) [
        | inl own ↦ subst (λ i. i ≤ begun h) (same_session n m own) (l.numbered s may.0)
        | inr other ↦ l.known key m other
      ]
      by_key false stands = l.known key m stands

  granted_keeps : (key : List ℕ) (m : ℕ) (y : Mode) → holds (queue_of key h) m y ≡ true → holds (now key) m y ≡ true
  granted_keeps key m y held = by_key (same_bytes k key)
    where
      by_key : (b : Bool) → holds (cond b (queue_after (queue_of key h) n x Granted) (queue_of key h)) m y ≡ true
      by_key true = keeps_with (queue_of key h) (record { transaction = n; mode = x; granted = true }) m y held
      by_key false = held

  granted_own : (key : List ℕ) → same_bytes k key ≡ true → holds (now key) n x ≡ true
  granted_own key e = rw e (own_with (queue_of key h) n x (none_waits h s key l may))

  granted_waits : (t : ℕ) (key : List ℕ) → is_open t h ≡ true → is_ungranted (request_in (now key) (transaction_number_of t h)) ≡ true → waited_for t h ≡ Some key
  granted_waits t key is w = by_key (same_bytes k key) (s == t) refl refl w
    where
      by_key : (b c : Bool) → same_bytes k key ≡ b → (s == t) ≡ c → is_ungranted (request_in (cond b (queue_after (queue_of key h) n x Granted) (queue_of key h)) (transaction_number_of t h)) ≡ true → waited_for t h ≡ Some key
      by_key false c e f w = l.waits t key is w
      by_key true true e f w =
          let own : transaction_number_of t h ≡ n = ap (λ u. transaction_number_of u h) (sym (same_session s t f)) in
          let held = holds_waits (queue_after (queue_of key h) n x Granted) n x (own_with (queue_of key h) n x (none_waits h s key l may)) in
          no_lie (sym w ∙ ap (λ i. is_ungranted (request_in (queue_after (queue_of key h) n x Granted) i)) own ∙ held)
      by_key true false e f w =
          l.waits t key is (ap is_ungranted (sym (other_with (queue_of key h) (record { transaction = n; mode = x; granted = true }) (transaction_number_of t h) (l.apart s t may.0 is f))) ∙ w)

-- after a read
reads_locked : (h : History) (s : ℕ) (k : List ℕ) (answer : Option (List ℕ)) → MayAsk s h → outcome (queue_of k h) (transaction_number_of s h) Shared ≡ Granted → Locked h → LockedBy h (Reads s k answer)
reads_locked h s k answer may granted l = record {
  settled = granted_settled_at h s k Shared l may granted;
  known = granted_known h s k Shared l may granted;
  numbered = l.numbered;
  apart = l.apart;
  waits = granted_waits h s k Shared l may granted;
  reads = λ t key is read. by_own t key (s == t) refl is read;
  writes = λ t key is wrote. granted_keeps h s k Shared l may granted key (transaction_number_of t h) Exclusive (l.writes t key is wrote);
}
  where
    by_own : (t : ℕ) (key : List ℕ) (b : Bool) → (s == t) ≡ b → is_open t h ≡ true → is_among (cond b (k ∷ keys_read t h) (keys_read t h)) key ≡ true → holds (now h s k Shared l may granted key) (transaction_number_of t h) Shared ≡ true
    by_own t key false e is read = granted_keeps h s k Shared l may granted key (transaction_number_of t h) Shared (l.reads t key is read)
    by_own t key true e is read = by_key (same_bytes key k) refl read
      where
        by_key : (c : Bool) → same_bytes key k ≡ c → (c || is_among (keys_read t h) key) ≡ true → holds (now h s k Shared l may granted key) (transaction_number_of t h) Shared ≡ true
        by_key true f read = subst (λ u. holds (now h s k Shared l may granted key) (transaction_number_of u h) Shared ≡ true) (same_session s t e) (granted_own h s k Shared l may granted key (turned_key k key ∙ f))
        by_key false f read = granted_keeps h s k Shared l may granted key (transaction_number_of t h) Shared (l.reads t key is read)

-- after a write
module _ (h : History) (s : ℕ) (k : List ℕ) (change : Change) (may : MayAsk s h) (granted : outcome (queue_of k h) (transaction_number_of s h) Exclusive ≡ Granted) (l : Locked h) where
  -- whatever an open session has read since its begin it holds still
  still_reads : (t : ℕ) (key : List ℕ) → is_open t h ≡ true → is_among (keys_read t h) key ≡ true → holds (now h s k Exclusive l may granted key) (transaction_number_of t h) Shared ≡ true
  still_reads t key is read = granted_keeps h s k Exclusive l may granted key (transaction_number_of t h) Shared (l.reads t key is read)

  -- and so what it has written, this write with it
  wrote_by : (t : ℕ) (key : List ℕ) (b : Bool) → (s == t) ≡ b → is_open t h ≡ true → is_some (written (cond b (with_write (writes_of t h) (write_of k change)) (writes_of t h)) key) ≡ true → holds (now h s k Exclusive l may granted key) (transaction_number_of t h) Exclusive ≡ true
  wrote_by t key false e is wrote = granted_keeps h s k Exclusive l may granted key (transaction_number_of t h) Exclusive (l.writes t key is wrote)
  wrote_by t key true e is wrote = by_key (same_bytes k key) refl (sym (held_by (writes_of t h) (write_of k change) key) ∙ wrote)
    where
      by_key : (c : Bool) → same_bytes k key ≡ c → (c || is_some (written (writes_of t h) key)) ≡ true → holds (now h s k Exclusive l may granted key) (transaction_number_of t h) Exclusive ≡ true
      by_key true f wrote = subst (λ u. holds (now h s k Exclusive l may granted key) (transaction_number_of u h) Exclusive ≡ true) (same_session s t e) (granted_own h s k Exclusive l may granted key f)
      by_key false f wrote = granted_keeps h s k Exclusive l may granted key (transaction_number_of t h) Exclusive (l.writes t key is wrote)

writes_locked : (h : History) (s : ℕ) (k : List ℕ) (value : Option (List ℕ)) → MayAsk s h → outcome (queue_of k h) (transaction_number_of s h) Exclusive ≡ Granted → Locked h → LockedBy h (Writes s k value)
writes_locked h s k value may granted l = record {
  settled = granted_settled_at h s k Exclusive l may granted;
  known = granted_known h s k Exclusive l may granted;
  numbered = l.numbered;
  apart = l.apart;
  waits = granted_waits h s k Exclusive l may granted;
  reads = still_reads h s k (change_to value) may granted l;
  writes = λ t key is wrote. wrote_by h s k (change_to value) may granted l t key (s == t) refl is wrote;
}

-- what is held exclusively is held
weaker : (queue : Queue) (n : ℕ) → holds queue n Exclusive ≡ true → holds queue n Shared ≡ true
weaker queue n held = by_request (request_in queue n) held
  where
    by_mode : (g x : Bool) → (g && (x || false)) ≡ true → (g && (x || true)) ≡ true
    by_mode true true e = refl
    by_mode true false e = refl
    by_mode false x e = e

    by_request : (o : Option Request) → is_granted_as Exclusive o ≡ true → is_granted_as Shared o ≡ true
    by_request None e = e
    by_request (Some r) e = by_mode r.granted (is_exclusive r.mode) e

-- after an add
adds_locked : (h : History) (s : ℕ) (k : List ℕ) (delta sum : ℤ) → MayAsk s h → outcome (queue_of k h) (transaction_number_of s h) Exclusive ≡ Granted → Locked h → LockedBy h (Adds s k delta sum)
adds_locked h s k delta sum may granted l = record {
  settled = granted_settled_at h s k Exclusive l may granted;
  known = granted_known h s k Exclusive l may granted;
  numbered = l.numbered;
  apart = l.apart;
  waits = granted_waits h s k Exclusive l may granted;
  reads = λ t key is read. by_own t key (s == t) refl is read;
  writes = λ t key is wrote. wrote_by h s k (Add delta) may granted l t key (s == t) refl is wrote;
}
  where
    by_own : (t : ℕ) (key : List ℕ) (b : Bool) → (s == t) ≡ b → is_open t h ≡ true → is_among (cond b (k ∷ keys_read t h) (keys_read t h)) key ≡ true → holds (now h s k Exclusive l may granted key) (transaction_number_of t h) Shared ≡ true
    by_own t key false e is read = still_reads h s k (Add delta) may granted l t key is read
    by_own t key true e is read = by_key (same_bytes key k) refl read
      where
        by_key : (c : Bool) → same_bytes key k ≡ c → (c || is_among (keys_read t h) key) ≡ true → holds (now h s k Exclusive l may granted key) (transaction_number_of t h) Shared ≡ true
        by_key true f read = subst (λ u. holds (now h s k Exclusive l may granted key) (transaction_number_of u h) Shared ≡ true) (same_session s t e)
            (weaker (now h s k Exclusive l may granted key) (transaction_number_of s h) (granted_own h s k Exclusive l may granted key (turned_key k key ∙ f)))
        by_key false f read = still_reads h s k (Add delta) may granted l t key is read

-- after a request that waits
waits_locked : (h : History) (s : ℕ) (k : List ℕ) (x : Mode) → MayAsk s h → outcome (queue_of k h) (transaction_number_of s h) x ≡ Queued → Locked h → LockedBy h (Waits s k x)
waits_locked h s k x may queued l = record {
  settled = λ key. settle key (same_bytes k key) refl;
  known = λ key m stands. know key m (same_bytes k key) stands;
  numbered = l.numbered;
  apart = l.apart;
  waits = λ t key is w. waiting t key (same_bytes k key) (s == t) refl refl is w;
  reads = λ t key is read. keep key (transaction_number_of t h) Shared (same_bytes k key) (l.reads t key is read);
  writes = λ t key is wrote. keep key (transaction_number_of t h) Exclusive (same_bytes k key) (l.writes t key is wrote);
}
  where
    request : Request
    request = record { transaction = transaction_number_of s h; mode = x; granted = false }

    settle : (key : List ℕ) (b : Bool) → same_bytes k key ≡ b → IsSettled (cond b (queue_after (queue_of key h) (transaction_number_of s h) x Queued) (queue_of key h))
    settle key true e = kept_after (queue_of key h) (transaction_number_of s h) x Queued (l.settled key) (none_waits h s key l may) (ap (λ q. outcome (queue_of q h) (transaction_number_of s h) x) (sym (one_key k key e)) ∙ queued)
    settle key false e = l.settled key

    know : (key : List ℕ) (m : ℕ) (b : Bool) → stands_in (cond b (queue_of key h ++ request ∷ []) (queue_of key h)) m ≡ true → m ≤ begun h
    know key m true stands = elim (stands_push (queue_of key h) request m stands) [
      | inl own ↦ subst (λ i. i ≤ begun h) (same_session (transaction_number_of s h) m own) (l.numbered s may.0)
      | inr other ↦ l.known key m other
    ]
    know key m false stands = l.known key m stands

    keep : (key : List ℕ) (m : ℕ) (y : Mode) (b : Bool) → holds (queue_of key h) m y ≡ true → holds (cond b (queue_of key h ++ request ∷ []) (queue_of key h)) m y ≡ true
    keep key m y true held = keeps_push (queue_of key h) request m y held
    keep key m y false held = held

    waiting : (t : ℕ) (key : List ℕ) (b c : Bool) → same_bytes k key ≡ b → (s == t) ≡ c → is_open t h ≡ true → is_ungranted (request_in (cond b (queue_of key h ++ request ∷ []) (queue_of key h)) (transaction_number_of t h)) ≡ true → cond c (Some k) (waited_for t h) ≡ Some key
    waiting t key true true e f is w = ap Some (one_key k key e)
    waiting t key false true e f is w = no_lie (sym w ∙ ap (λ u. is_ungranted (request_in (queue_of key h) (transaction_number_of u h))) (sym (same_session s t f)) ∙ none_waits h s key l may)
    waiting t key true false e f is w = l.waits t key is (ap is_ungranted (sym (other_push (queue_of key h) request (transaction_number_of t h) (l.apart s t may.0 is f))) ∙ w)
    waiting t key false false e f is w = l.waits t key is w

-- after the end of a transaction
pub record Ended (h : History) (s : ℕ) : Type 0 where
  pub locked : IsLocked (λ key. queue_without (queue_of key h) (transaction_number_of s h)) (begun h) (λ t. cond (s == t) false (is_open t h)) (λ t. transaction_number_of t h) (λ t. waited_for t h) (λ t. keys_read t h) (λ t. writes_of t h)

ends_locked : (h : History) (s : ℕ) → is_open s h ≡ true → Locked h → Ended h s
ends_locked h s opened l = record {
  locked = record {
    settled = λ key. kept_without (queue_of key h) (transaction_number_of s h) (l.settled key);
    known = λ key m stands. l.known key m (stands_without (queue_of key h) (transaction_number_of s h) m stands);
    numbered = λ t is. l.numbered t (still t is).1;
    apart = λ t u it iu not_same. l.apart t u (still t it).1 (still u iu).1 not_same;
    waits = λ t key is w. let o = still t is in l.waits t key o.1 (waits_without (queue_of key h) (transaction_number_of s h) (transaction_number_of t h) (l.apart s t opened o.1 o.0) w);
    reads = λ t key is read. let o = still t is in keeps_without (queue_of key h) (transaction_number_of s h) (transaction_number_of t h) Shared (l.apart s t opened o.1 o.0) (l.reads t key o.1 read);
    writes = λ t key is wrote. let o = still t is in keeps_without (queue_of key h) (transaction_number_of s h) (transaction_number_of t h) Exclusive (l.apart s t opened o.1 o.0) (l.writes t key o.1 wrote);
  };
}
  where
    still : (t : ℕ) → cond (s == t) false (is_open t h) ≡ true → ((s == t) ≡ false) × (is_open t h ≡ true)
    still t is = by_test (s == t) is
      where
        by_test : (b : Bool) → cond b false (is_open t h) ≡ true → (b ≡ false) × (is_open t h ≡ true)
        by_test true is = cc
        by_test false is = (refl, is)

-- every allowed effect keeps the locks
pub allowed_locked : (h : History) (e : Effect) → IsAllowed h e → Locked h → LockedBy h e
allowed_locked h (Begins s) closed l = begins_locked h s closed l
allowed_locked h (Reads s k answer) is l = reads_locked h s k answer is.0 is.1 l
allowed_locked h (Writes s k value) is l = writes_locked h s k value is.0 is.1 l
allowed_locked h (Adds s k delta sum) is l = adds_locked h s k delta sum is.0 is.1 l
allowed_locked h (Waits s k x) is l = waits_locked h s k x is.0 is.1 l
allowed_locked h (Commits s) opened l = (ends_locked h s opened l).locked
allowed_locked h (Aborts s) opened l = (ends_locked h s opened l).locked
allowed_locked h (Dies s k x) is l = l
allowed_locked h (Moves phase n) is l = l
allowed_locked h (Takes k c) is l = l
allowed_locked h (Shelves n) is l = l
allowed_locked h (Joins a b) is l = l
allowed_locked h Nothing is l = l

-- nothing is locked at first
pub locked_first : Locked []
locked_first = record {
  settled = λ key. (tt, tt);
  known = λ key n stands. cc;
  numbered = λ s is. cc;
  apart = λ s t is. cc;
  waits = λ s key is. cc;
  reads = λ s key is. cc;
  writes = λ s key is. cc;
}
