-- Who has the exclusive lock of a key has it alone, until it is released.
use Rattle.std.proofs.Common.{◌≡◌, ℕ, suc, ◌<◌, [], ◌∷◌, ◌++◌, length, get_or, filter, not, Option, Some, None, refl, sym, ap, ◌∙◌, arith, cond, Bool, true, false, eqb, ◌&&◌, ◌||◌}
use Rattle.std.specs.Prelude.{IsTrue}
use Rattle.std.specs.List.{list_all}
use Rattle.std.proofs.lemmas.Bool.Decides.{nat_tests}
use Rattle.pc_types.specs.declared.Mode.{Mode}
use Rattle.pc_types.specs.declared.Mode.TheVariants.{Exclusive}
use Rattle.pc_types.specs.declared.Outcome.{Outcome}
use Rattle.pc_types.specs.declared.Request.{Request}
use Rattle.pc_model.specs.Locks.{Queue, are_compatible, request_in, is_ungranted, outcome, outcome_beside, queue_after, queue_without, with_request, granted_behind, is_exclusive, stronger}
use Rattle.pc_model.specs.Queues.{Conflicts, IsLegalQueue, IsSettled}
use Rattle.pc_types.specs.declared.Outcome.TheVariants.{Granted, Queued, Died}
use Rattle.pc_model.proofs.LegalQueueLaws.{sound_legal}
use Rattle.pc_model.proofs.QueueLaws.{settled_sound}
use Rattle.pc_slots.specs.Slots.{has_exclusive}

-- no two granted requests of a settled queue conflict
pub settled_legal : (queue : Queue) → IsSettled queue → IsLegalQueue queue
settled_legal queue s = sound_legal [] queue (settled_sound [] queue s.0)

same_number : (a b : ℕ) → eqb a b ≡ true → a ≡ b
same_number a b e = grind (arith, nat_tests, e)

-- if all requests are compatible with one of the transaction, only its own is exclusive
alone_of_new : (queue : Queue) (t w : ℕ) (x : Mode) → list_all (are_compatible (record { transaction = t; mode = x; granted = true })) queue ≡ true → has_exclusive queue w ≡ true → t ≡ w
alone_of_new [] t w x all has = absurd (cc (has))
alone_of_new (r ∷ rs) t w x all has = grind (arith, nat_tests, alone_of_new rs t w x)

-- each of the requests is compatible with the first one
abbrev StandBeside : Request → Queue → Type 0
StandBeside r rs = (j : ℕ) (d : Request) → j < length rs → IsTrue r.granted → IsTrue (get_or rs j d).granted → ¬ Conflicts r (get_or rs j d)

first_of_legal : (r : Request) (rs : Queue) → IsLegalQueue (r ∷ rs) → StandBeside r rs
first_of_legal r rs legal j d lt = legal 0 (suc j) d (omega arith) (omega (arith, lt))

rest_of_legal : (r : Request) (rs : Queue) → IsLegalQueue (r ∷ rs) → IsLegalQueue rs
rest_of_legal r rs legal i j d lt in_range = legal (suc i) (suc j) d (omega (arith, lt)) (omega (arith, in_range))

rest_beside : (r q : Request) (rs : Queue) → StandBeside r (q ∷ rs) → StandBeside r rs
rest_beside r q rs beside j d lt = beside (suc j) d (omega (arith, lt))

compatible : (r q : Request) → r.granted ≡ true → q.granted ≡ true → (IsTrue r.granted → IsTrue q.granted → ¬ Conflicts r q) → are_compatible r q ≡ true
compatible r q g h stand = by_test (are_compatible r q) (stand g h)
  where
    by_test : (b : Bool) → ((IsTrue b → ⊥) → ⊥) → b ≡ true
    by_test true f = refl
    by_test false f = absurd (f (λ e. cc))

-- of two requests that are granted, one of them exclusive, the transactions are the same
same_of : (r q : Request) → ((is_exclusive r.mode) || (is_exclusive q.mode)) ≡ true → are_compatible r q ≡ true → r.transaction ≡ q.transaction
same_of r q some compat = grind (arith, nat_tests)

-- a granted request with an exclusive one
beside_exclusive : (r : Request) (rs : Queue) (w : ℕ) → r.granted ≡ true → StandBeside r rs → has_exclusive rs w ≡ true → r.transaction ≡ w
beside_exclusive r [] w g beside has = cc
beside_exclusive r (q ∷ rs) w g beside has = grind (arith, nat_tests, beside_exclusive r rs w g (rest_beside r q rs beside), same_of r q, compatible r q g, beside 0 q (omega arith))

-- an exclusive request with a granted one
beside_granted : (r : Request) (rs : Queue) (t : ℕ) (own : Request) → r.granted ≡ true → (is_exclusive r.mode) ≡ true → StandBeside r rs → request_in rs t ≡ Some own → own.granted ≡ true → r.transaction ≡ t
beside_granted r [] t own g x beside found granted = cc
beside_granted r (q ∷ rs) t own g x beside found granted = by_test (eqb q.transaction t) refl found (λ later. beside_granted r rs t own g x (rest_beside r q rs beside) later granted)
  where
    by_test : (a : Bool) → eqb q.transaction t ≡ a → cond a (Some q) (request_in rs t) ≡ Some own → (request_in rs t ≡ Some own → r.transaction ≡ t) → r.transaction ≡ t
    by_test true is found rest =
        let same : q ≡ own = cc in
        same_of r q (rw x refl) (compatible r q g (ap (λ (o : Request). o.granted) same ∙ granted) (beside 0 q (omega arith))) ∙ same_number q.transaction t is
    by_test false is found rest = rest found

-- a transaction with a granted request is the one that has the exclusive lock
alone_of_granted : (queue : Queue) (t w : ℕ) (own : Request) → IsLegalQueue queue → request_in queue t ≡ Some own → own.granted ≡ true → has_exclusive queue w ≡ true → t ≡ w
alone_of_granted [] t w own legal found granted has = cc
alone_of_granted (r ∷ rs) t w own legal found granted has = by_test (eqb r.transaction t) refl (eqb r.transaction w) refl (is_exclusive r.mode) r.granted refl refl found has (λ later other. alone_of_granted rs t w own (rest_of_legal r rs legal) later granted other)
  where
    by_test : (s : Bool) → eqb r.transaction t ≡ s → (a : Bool) → eqb r.transaction w ≡ a → (b c : Bool) → (is_exclusive r.mode) ≡ b → r.granted ≡ c → cond s (Some r) (request_in rs t) ≡ Some own → ((a && (b && c)) || has_exclusive rs w) ≡ true → (request_in rs t ≡ Some own → has_exclusive rs w ≡ true → t ≡ w) → t ≡ w
    by_test true own_is true is b c x g found has rest = sym (same_number r.transaction t own_is) ∙ same_number r.transaction w is
    by_test true own_is false is b c x g found has rest =
        let same : r ≡ own = cc in
        sym (same_number r.transaction t own_is) ∙ beside_exclusive r rs w (ap (λ (o : Request). o.granted) same ∙ granted) (first_of_legal r rs legal) has
    by_test false own_is true is true true x g found has rest = sym (beside_granted r rs t own g x (first_of_legal r rs legal) found granted) ∙ same_number r.transaction w is
    by_test false own_is true is true false x g found has rest = rest found has
    by_test false own_is true is false c x g found has rest = rest found has
    by_test false own_is false is b c x g found has rest = rest found has

-- if the request of a transaction that doesn't wait is granted, no other one has the exclusive lock
pub alone : (queue : Queue) (t w : ℕ) (x : Mode) → IsLegalQueue queue → is_ungranted (request_in queue t) ≡ false → outcome queue t x ≡ Granted → has_exclusive queue w ≡ true → t ≡ w
alone queue t w x legal ready granted has = by_own (request_in queue t) refl ready granted
  where
    by_own : (o : Option Request) → request_in queue t ≡ o → is_ungranted o ≡ false → outcome_beside queue t x o ≡ Granted → t ≡ w
    by_own None is ready granted = by_all (list_all (are_compatible (record { transaction = t; mode = x; granted = true })) queue) refl granted
      where
        died : (b : Bool) → cond b Queued Died ≡ Granted → ⊥
        died true e = cc
        died false e = cc

        by_all : (b : Bool) → list_all (are_compatible (record { transaction = t; mode = x; granted = true })) queue ≡ b → cond b Granted (cond (list_all (λ (r : Request). Rattle.std.specs.Prelude.nat_lt t r.transaction) queue) Queued Died) ≡ Granted → t ≡ w
        by_all true all e = alone_of_new queue t w x all has
        by_all false all e = absurd (died (list_all (λ (r : Request). Rattle.std.specs.Prelude.nat_lt t r.transaction) queue) e)
    by_own (Some own) is ready granted = alone_of_granted queue t w own legal is (not_false own.granted ready) has
      where
        not_false : (b : Bool) → not b ≡ false → b ≡ true
        not_false true e = refl
        not_false false e = cc

stronger_is : (a b : Mode) → is_exclusive (stronger a b) ≡ (is_exclusive a || is_exclusive b)
stronger_is a b = grind arith

-- it stays so when another request is answered
kept_with : (queue : Queue) (q : Request) (w : ℕ) → has_exclusive queue w ≡ true → has_exclusive (with_request queue q) w ≡ true
kept_with [] q w has = cc
kept_with (r ∷ rs) q w has = grind (arith, nat_tests, kept_with rs q w, stronger_is r.mode q.mode)

pub kept_answered : (queue : Queue) (t w : ℕ) (x : Mode) (o : Outcome) → has_exclusive queue w ≡ true → has_exclusive (queue_after queue t x o) w ≡ true
kept_answered queue t w x Granted has = kept_with queue (record { transaction = t; mode = x; granted = true }) w has
kept_answered queue t w x Queued has = kept_append queue (record { transaction = t; mode = x; granted = false }) has
  where
    kept_append : (rs : Queue) (q : Request) → has_exclusive rs w ≡ true → has_exclusive (rs ++ q ∷ []) w ≡ true
    kept_append [] q has = cc
    kept_append (r ∷ rs) q has = grind (arith, nat_tests, kept_append rs q)
kept_answered queue t w x Died has = has

-- and when another's request is removed
kept_granted : (before rs : Queue) (w : ℕ) → has_exclusive rs w ≡ true → has_exclusive (granted_behind before rs) w ≡ true
kept_granted before [] w has = has
kept_granted before (r ∷ rs) w has = grind (arith, nat_tests, kept_granted (before ++ record { transaction = r.transaction; mode = r.mode; granted = true } ∷ []) rs w)

pub kept_released : (queue : Queue) (t w : ℕ) → has_exclusive queue w ≡ true → eqb w t ≡ false → has_exclusive (queue_without queue t) w ≡ true
kept_released queue t w has other = kept_granted [] (filter (λ r. not (eqb r.transaction t)) queue) w (kept_filter queue has)
  where
    kept_filter : (rs : Queue) → has_exclusive rs w ≡ true → has_exclusive (filter (λ r. not (eqb r.transaction t)) rs) w ≡ true
    kept_filter [] has = has
    kept_filter (r ∷ rs) has = grind (arith, nat_tests, kept_filter rs)

-- who is granted an exclusive request has the exclusive lock
pub has_granted : (queue : Queue) (t : ℕ) → is_ungranted (request_in queue t) ≡ false → has_exclusive (queue_after queue t Exclusive Granted) t ≡ true
has_granted [] t ready = grind (arith, nat_tests)
has_granted (r ∷ rs) t ready = grind (arith, nat_tests, has_granted rs t, stronger_is r.mode Exclusive)
