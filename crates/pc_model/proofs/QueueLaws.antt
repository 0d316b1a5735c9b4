-- The six rules keep a queue settled, and each transaction in it once.
use Rattle.std.proofs.Common.{◌≡◌, ℕ, ◌==◌, [], ◌∷◌, ◌++◌, Option, Some, None, Bool, true, false, ◌||◌, ◌&&◌, ◌⊎◌, inl, inr, not, nat_lt, cond, refl, sym, ◌∙◌, ap, subst, ◌<◌, length, set, append-nil, append_assoc, is_some, arith}
use Rattle.std.specs.Prelude.{MatchBool, filter}
use Rattle.std.specs.List.{list_any, list_all}
use Rattle.std.proofs.lemmas.List.Elements.{filter-append}
use Rattle.std.proofs.lemmas.List.Folds.{list_any-append, list_all-append}
use Rattle.std.proofs.lemmas.Bool.Decides.{nat_tests}
use Rattle.pc_types.specs.declared.Mode.{Mode}
use Rattle.pc_types.specs.declared.Mode.TheVariants.{Shared, Exclusive}
use Rattle.pc_types.specs.declared.Outcome.{Outcome}
use Rattle.pc_types.specs.declared.Request.{Request}
use Rattle.pc_model.specs.Locks.{Queue, is_exclusive, stronger, are_compatible, request_in, granted_behind, with_request, is_ungranted, outcome, outcome_beside, outcome_of_upgrade, outcome_of_new, queue_after, queue_without}
use Rattle.pc_types.specs.declared.Outcome.TheVariants.{Granted, Queued, Died}
use Rattle.pc_model.specs.Queues.{IsSoundBehind, AllWait, IsSettledBehind, stands_in, AreOnce, IsSettled, grant}

pub match_map : {P Q S T : Type 0} (b : Bool) → (P → S) → (Q → T) → MatchBool b P Q → MatchBool b S T
match_map true f g h = f h
match_map false f g h = g h

pub settled_sound : (before rs : Queue) → IsSettledBehind before rs → IsSoundBehind before rs
settled_sound before [] s = tt
settled_sound before (r ∷ rs) s = match_map r.granted (λ h. (h.0, settled_sound (before ++ r ∷ []) rs h.1)) (λ h. h.1) s

wait_sound : (before rs : Queue) → AllWait rs → IsSoundBehind before rs
wait_sound before [] w = tt
wait_sound before (r ∷ rs) w = rw w.0 w.1

granted_is : (r : Request) → r.granted ≡ true → grant r ≡ r
granted_is r e = λ i. record r { granted = sym e i }

rest_sound : (before rs : Queue) (r : Request) (b : Bool) → r.granted ≡ b → MatchBool b ((list_all (are_compatible r) before ≡ true) × IsSoundBehind (before ++ r ∷ []) rs) (AllWait rs) → IsSoundBehind (before ++ grant r ∷ []) rs
rest_sound before rs r true e s = let P : Request → Type 0 = λ q. IsSoundBehind (before ++ q ∷ []) rs in subst P (sym (granted_is r e)) s.1
rest_sound before rs r false e s = wait_sound (before ++ grant r ∷ []) rs s

unfit : (before rs : Queue) (r : Request) (b : Bool) → list_all (are_compatible r) before ≡ false → MatchBool b ((list_all (are_compatible r) before ≡ true) × IsSoundBehind (before ++ r ∷ []) rs) (AllWait rs) →
    MatchBool b ((list_all (are_compatible r) before ≡ true) × IsSettledBehind (before ++ r ∷ []) rs) ((list_all (are_compatible r) before ≡ false) × AllWait rs)
unfit before rs r true e s = absurd (let h = s.0 in cc)
unfit before rs r false e s = (e, s)

granted_by : (before rs : Queue) (r : Request) → IsSettledBehind (before ++ grant r ∷ []) (granted_behind (before ++ grant r ∷ []) rs) → IsSoundBehind before (r ∷ rs) →
    (f : Bool) → list_all (are_compatible r) before ≡ f → IsSettledBehind before (cond f (grant r ∷ granted_behind (before ++ grant r ∷ []) rs) (r ∷ rs))
granted_by before rs r later s true e = (e, later)
granted_by before rs r later s false e = unfit before rs r r.granted e s

-- granting from the front settles
pub granted_settled : (before rs : Queue) → IsSoundBehind before rs → IsSettledBehind before (granted_behind before rs)
granted_settled before [] s = tt
granted_settled before (r ∷ rs) s = granted_by before rs r (granted_settled (before ++ grant r ∷ []) rs (rest_sound before rs r r.granted refl s)) s (list_all (are_compatible r) before) refl

all_filter : (f p : Request → Bool) (rs : Queue) → list_all f rs ≡ true → list_all f (filter p rs) ≡ true
all_filter f p [] e = refl
all_filter f p (r ∷ rs) e = by (p r) (f r) refl (all_filter f p rs)
  where
    by : (b c : Bool) → f r ≡ c → (list_all f rs ≡ true → list_all f (filter p rs) ≡ true) → list_all f (cond b (r ∷ filter p rs) (filter p rs)) ≡ true
    by true true g h = rw g (h (rw g at e))
    by true false g h = absurd (let k = rw g at e in cc)
    by false true g h = h (rw g at e)
    by false false g h = absurd (let k = rw g at e in cc)

wait_filter : (p : Request → Bool) (rs : Queue) → AllWait rs → AllWait (filter p rs)
wait_filter p [] w = tt
wait_filter p (r ∷ rs) w = by (p r) (wait_filter p rs w.1)
  where
    by : (b : Bool) → AllWait (filter p rs) → AllWait (cond b (r ∷ filter p rs) (filter p rs))
    by true h = (w.0, h)
    by false h = h

sound_kept : (p : Request → Bool) (before rs : Queue) (r : Request) → ((next : Queue) → IsSoundBehind next rs → IsSoundBehind (filter p next) (filter p rs)) → (b : Bool) → p r ≡ b → IsSoundBehind before (r ∷ rs) →
    IsSoundBehind (filter p before) (cond b (r ∷ filter p rs) (filter p rs))
sound_kept p before rs r ih true e s =
    match_map r.granted
    (λ h. (all_filter (are_compatible r) p before h.0, subst (λ (xs : Queue). IsSoundBehind xs (filter p rs)) (filter-append p before (r ∷ []) ∙ ap (λ b. filter p before ++ cond b (r ∷ []) []) e) (ih (before ++ r ∷ []) h.1)))
    (wait_filter p rs) s
sound_kept p before rs r ih false e s = by r.granted s
  where
    by : (b : Bool) → MatchBool b ((list_all (are_compatible r) before ≡ true) × IsSoundBehind (before ++ r ∷ []) rs) (AllWait rs) → IsSoundBehind (filter p before) (filter p rs)
    by true h = subst (λ (xs : Queue). IsSoundBehind xs (filter p rs)) (filter-append p before (r ∷ []) ∙ (ap (λ b. filter p before ++ cond b (r ∷ []) []) e ∙ append-nil (filter p before))) (ih (before ++ r ∷ []) h.1)
    by false h = wait_sound (filter p before) (filter p rs) (wait_filter p rs h)

-- without some of its requests a queue is still sound
pub sound_filter : (p : Request → Bool) (before rs : Queue) → IsSoundBehind before rs → IsSoundBehind (filter p before) (filter p rs)
sound_filter p before [] s = tt
sound_filter p before (r ∷ rs) s = sound_kept p before rs r (λ next. sound_filter p next rs) (p r) refl s

-- granting changes nobody's place
pub stands_granted : (before rs : Queue) (t : ℕ) → stands_in (granted_behind before rs) t ≡ stands_in rs t
stands_granted before [] t = refl
stands_granted before (r ∷ rs) t = by (list_all (are_compatible r) before) (stands_granted (before ++ grant r ∷ []) rs t)
  where
    by : (b : Bool) → stands_in (granted_behind (before ++ grant r ∷ []) rs) t ≡ stands_in rs t → stands_in (cond b (grant r ∷ granted_behind (before ++ grant r ∷ []) rs) (r ∷ rs)) t ≡ stands_in (r ∷ rs) t
    by true h = ap (λ b. (r.transaction == t) || b) h
    by false h = refl

pub once_granted : (before rs : Queue) → AreOnce rs → AreOnce (granted_behind before rs)
once_granted before [] o = tt
once_granted before (r ∷ rs) o = by (list_all (are_compatible r) before) (once_granted (before ++ grant r ∷ []) rs o.1)
  where
    by : (b : Bool) → AreOnce (granted_behind (before ++ grant r ∷ []) rs) → AreOnce (cond b (grant r ∷ granted_behind (before ++ grant r ∷ []) rs) (r ∷ rs))
    by true h = (stands_granted (before ++ grant r ∷ []) rs r.transaction ∙ o.0, h)
    by false h = o

any_filter : (f p : Request → Bool) (rs : Queue) → list_any f rs ≡ false → list_any f (filter p rs) ≡ false
any_filter f p [] e = refl
any_filter f p (r ∷ rs) e = by (p r) (f r) refl (any_filter f p rs)
  where
    by : (b c : Bool) → f r ≡ c → (list_any f rs ≡ false → list_any f (filter p rs) ≡ false) → list_any f (cond b (r ∷ filter p rs) (filter p rs)) ≡ false
    by true true g h = absurd (let k = rw g at e in cc)
    by true false g h = rw g (h (rw g at e))
    by false true g h = absurd (let k = rw g at e in cc)
    by false false g h = h (rw g at e)

pub once_filter : (p : Request → Bool) (rs : Queue) → AreOnce rs → AreOnce (filter p rs)
once_filter p [] o = tt
once_filter p (r ∷ rs) o = by (p r) (once_filter p rs o.1)
  where
    by : (b : Bool) → AreOnce (filter p rs) → AreOnce (cond b (r ∷ filter p rs) (filter p rs))
    by true h = (any_filter (λ q. q.transaction == r.transaction) p rs o.0, h)
    by false h = h

-- at the end of the queue a request waits that isn't compatible with each before it
pub settled_wait : (before rs : Queue) (w : Request) → IsSettledBehind before rs → list_all (are_compatible w) (before ++ rs) ≡ false → w.granted ≡ false → IsSettledBehind before (rs ++ w ∷ [])
settled_wait before [] w s e g = rw g (let h : list_all (are_compatible w) before ≡ false = ap (list_all (are_compatible w)) (sym (append-nil before)) ∙ e in (h, tt))
settled_wait before (r ∷ rs) w s e g =
    match_map r.granted
    (λ h. (h.0, settled_wait (before ++ r ∷ []) rs w h.1 (ap (list_all (are_compatible w)) (append_assoc before (r ∷ []) rs) ∙ e) g))
    (λ h. (h.0, wait_push rs h.1)) s
  where
    wait_push : (rs : Queue) → AllWait rs → AllWait (rs ++ w ∷ [])
    wait_push [] h = (g, tt)
    wait_push (r ∷ rs) h = (h.0, wait_push rs h.1)

eq_flip : (a b : ℕ) → (a == b) ≡ false → (b == a) ≡ false
eq_flip a b e = grind (arith, nat_tests)

or_false : (a b : Bool) → (a || b) ≡ false → (a ≡ false) × (b ≡ false)
or_false true b e = absurd cc
or_false false b e = (refl, e)

pub and_true : (a b : Bool) → (a && b) ≡ true → (a ≡ true) × (b ≡ true)
and_true true b e = (refl, e)
and_true false b e = absurd cc

-- a new transaction occurs once
pub once_push : (rs : Queue) (n : Request) → AreOnce rs → stands_in rs n.transaction ≡ false → AreOnce (rs ++ n ∷ [])
once_push [] n o e = (refl, tt)
once_push (r ∷ rs) n o e =
    let h = or_false (r.transaction == n.transaction) (stands_in rs n.transaction) e in
    let f = eq_flip r.transaction n.transaction h.0 in
    (list_any-append (λ q. q.transaction == r.transaction) rs (n ∷ []) ∙ rw (o.0, f), once_push rs n o.1 h.1)

both_shared : (n q : Request) → (q.transaction == n.transaction) ≡ false → are_compatible n q ≡ true → (is_exclusive n.mode ≡ false) × (is_exclusive q.mode ≡ false)
both_shared n q e c = by (is_exclusive n.mode) (is_exclusive q.mode) (rw (eq_flip q.transaction n.transaction e) at c)
  where
    by : (x y : Bool) → (false || (not x && not y)) ≡ true → (x ≡ false) × (y ≡ false)
    by true y h = absurd cc
    by false true h = absurd cc
    by false false h = (refl, refl)

shared_fit : (r q : Request) → is_exclusive r.mode ≡ false → is_exclusive q.mode ≡ false → are_compatible r q ≡ true
shared_fit r q e f = rw (e, f) (by (r.transaction == q.transaction))
  where
    by : (b : Bool) → (b || (not false && not false)) ≡ true
    by true = refl
    by false = refl

-- one that is shared fits if another one does
fits_too : (n r : Request) (before : Queue) → is_exclusive r.mode ≡ false → stands_in before n.transaction ≡ false → list_all (are_compatible n) before ≡ true → list_all (are_compatible r) before ≡ true
fits_too n r [] e s c = refl
fits_too n r (q ∷ qs) e s c =
    let t = or_false (q.transaction == n.transaction) (stands_in qs n.transaction) s in
    let d = and_true (are_compatible n q) (list_all (are_compatible n) qs) c in
    let f = shared_fit r q e (both_shared n q t.0 d.0).1 in
    rw f (fits_too n r qs e t.1 d.1)

-- at the end of the queue one is granted that is compatible with each before it
pub settled_grant : (before rs : Queue) (n : Request) → IsSettledBehind before rs → stands_in (before ++ rs) n.transaction ≡ false → list_all (are_compatible n) (before ++ rs) ≡ true → n.granted ≡ true → IsSettledBehind before (rs ++ n ∷ [])
settled_grant before [] n s e c g = rw g (let h : list_all (are_compatible n) before ≡ true = ap (list_all (are_compatible n)) (sym (append-nil before)) ∙ c in (h, tt))
settled_grant before (r ∷ rs) n s e c g = by (settled_grant (before ++ r ∷ []) rs n) r.granted s
  where
    by : (IsSettledBehind (before ++ r ∷ []) rs → stands_in ((before ++ r ∷ []) ++ rs) n.transaction ≡ false → list_all (are_compatible n) ((before ++ r ∷ []) ++ rs) ≡ true → n.granted ≡ true → IsSettledBehind (before ++ r ∷ []) (rs ++ n ∷ [])) → (b : Bool) → MatchBool b ((list_all (are_compatible r) before ≡ true) × IsSettledBehind (before ++ r ∷ []) rs) ((list_all (are_compatible r) before ≡ false) × AllWait rs) →
        MatchBool b ((list_all (are_compatible r) before ≡ true) × IsSettledBehind (before ++ r ∷ []) (rs ++ n ∷ [])) ((list_all (are_compatible r) before ≡ false) × AllWait (rs ++ n ∷ []))
    by ih true h =
        (h.0, ih h.1 (ap (λ xs. stands_in xs n.transaction) (append_assoc before (r ∷ []) rs) ∙ e) (ap (list_all (are_compatible n)) (append_assoc before (r ∷ []) rs) ∙ c) g)
    by ih false h =
        let e1 = or_false (stands_in before n.transaction) (stands_in (r ∷ rs) n.transaction) (sym (list_any-append (λ q. q.transaction == n.transaction) before (r ∷ rs)) ∙ e) in
        let e2 = or_false (r.transaction == n.transaction) (stands_in rs n.transaction) e1.1 in
        let c1 = and_true (list_all (are_compatible n) before) (list_all (are_compatible n) (r ∷ rs)) (sym (list_all-append (are_compatible n) before (r ∷ rs)) ∙ c) in
        let c2 = and_true (are_compatible n r) (list_all (are_compatible n) rs) c1.1 in
        let f = fits_too n r before (both_shared n r e2.0 c2.0).1 e1.0 c1.0 in
        absurd (let k = h.0 in cc)

-- if the transaction has none, its request goes to the end
pub with_new : (queue : Queue) (n : Request) → stands_in queue n.transaction ≡ false → with_request queue n ≡ queue ++ n ∷ []
with_new [] n e = refl
with_new (r ∷ rs) n e =
    let h = or_false (r.transaction == n.transaction) (stands_in rs n.transaction) e in
    rw h.0 (ap (λ xs. r ∷ xs) (with_new rs n h.1))

pub stands_is : (queue : Queue) (t : ℕ) → is_some (request_in queue t) ≡ stands_in queue t
stands_is [] t = refl
stands_is (r ∷ rs) t = by (r.transaction == t) (stands_is rs t)
  where
    by : (b : Bool) → is_some (request_in rs t) ≡ stands_in rs t → is_some (cond b (Some r) (request_in rs t)) ≡ (b || stands_in rs t)
    by true h = refl
    by false h = h

covered : (x y : Mode) → (is_exclusive x || not (is_exclusive y)) ≡ true → stronger x y ≡ x
covered Exclusive y e = refl
covered Shared Exclusive e = absurd cc
covered Shared Shared e = refl

-- what the own lock covers changes nothing
pub with_covered : (queue : Queue) (n own : Request) → request_in queue n.transaction ≡ Some own → (is_exclusive own.mode || not (is_exclusive n.mode)) ≡ true → with_request queue n ≡ queue
with_covered [] n own f e = absurd cc
with_covered (r ∷ rs) n own f e = by (with_covered rs n own) (r.transaction == n.transaction) f
  where
    by : (request_in rs n.transaction ≡ Some own → (is_exclusive own.mode || not (is_exclusive n.mode)) ≡ true → with_request rs n ≡ rs) → (b : Bool) → cond b (Some r) (request_in rs n.transaction) ≡ Some own → cond b (record r { mode = stronger r.mode n.mode } ∷ rs) (r ∷ with_request rs n) ≡ r ∷ rs
    by ih true g =
        let h : r ≡ own = cc in
        let k : stronger r.mode n.mode ≡ r.mode = covered r.mode n.mode (ap (λ (q : Request). is_exclusive q.mode || not (is_exclusive n.mode)) h ∙ e) in
        ap (λ x. record r { mode = x } ∷ rs) k
    by ih false g = ap (λ xs. r ∷ xs) (ih g e)

pub found_waits : (rs : Queue) (t : ℕ) (own : Request) → AllWait rs → request_in rs t ≡ Some own → own.granted ≡ false
found_waits [] t own w f = absurd cc
found_waits (r ∷ rs) t own w f = by (found_waits rs t own w.1) (r.transaction == t) f
  where
    by : (request_in rs t ≡ Some own → own.granted ≡ false) → (b : Bool) → cond b (Some r) (request_in rs t) ≡ Some own → own.granted ≡ false
    by ih true g = let h : r ≡ own = cc in ap (λ (q : Request). q.granted) (sym h) ∙ w.0
    by ih false g = ih g

never : (b : Bool) → ((not b && false) && true) ≡ false
never true = refl
never false = refl

-- those after a lock that becomes exclusive still wait
waiting_behind : (r : Request) (t : ℕ) (rs : Queue) → (r.transaction == t) ≡ true → stands_in rs r.transaction ≡ false → list_any (λ q. q.granted && not (q.transaction == t)) rs ≡ false →
    IsSettledBehind (r ∷ []) rs → IsSettledBehind (record r { mode = Exclusive } ∷ []) rs
waiting_behind r t [] e o n s = tt
waiting_behind r t (q ∷ qs) e o n s = by q.granted refl s
  where
    by : (b : Bool) → q.granted ≡ b → MatchBool b ((list_all (are_compatible q) (r ∷ []) ≡ true) × IsSettledBehind (r ∷ q ∷ []) qs) ((list_all (are_compatible q) (r ∷ []) ≡ false) × AllWait qs) →
        MatchBool b ((list_all (are_compatible q) (record r { mode = Exclusive } ∷ []) ≡ true) × IsSettledBehind (record r { mode = Exclusive } ∷ q ∷ []) qs) ((list_all (are_compatible q) (record r { mode = Exclusive } ∷ []) ≡ false) × AllWait qs)
    by true g h =
        let d = or_false (q.transaction == r.transaction) (stands_in qs r.transaction) o in
        let a : r.transaction ≡ t = grind (arith, nat_tests) in
        let f : (q.transaction == t) ≡ false = ap (λ n. q.transaction == n) (sym a) ∙ d.0 in
        absurd (let k = rw (g, f) at n in cc)
    by false g h =
        let d = or_false (q.transaction == r.transaction) (stands_in qs r.transaction) o in
        (rw d.0 (never (is_exclusive q.mode)), h.1)

strongest : (mode : Mode) → stronger mode Exclusive ≡ Exclusive
strongest Shared = refl
strongest Exclusive = refl

not_granted : (b : Bool) → (b && true) ≡ false → b ≡ false
not_granted true e = e
not_granted false e = refl

where_true : (P Q : Type 0) (b : Bool) → b ≡ true → MatchBool b P Q → P
where_true P Q true e h = h
where_true P Q false e h = absurd cc

back_true : (P Q : Type 0) (b : Bool) → b ≡ true → P → MatchBool b P Q
back_true P Q true e h = h
back_true P Q false e h = absurd cc

where_false : (P Q : Type 0) (b : Bool) → b ≡ false → MatchBool b P Q → Q
where_false P Q true e h = absurd cc
where_false P Q false e h = h

-- if an upgrade is granted, its own lock is in front
pub upgraded : (queue : Queue) (t : ℕ) (own : Request) → IsSettledBehind [] queue → AreOnce queue → request_in queue t ≡ Some own → own.granted ≡ true → is_exclusive own.mode ≡ false →
    list_any (λ q. q.granted && not (q.transaction == t)) queue ≡ false →
    (0 < length queue) × (with_request queue (record { transaction = t; mode = Exclusive; granted = true }) ≡ set queue 0 (record own { mode = Exclusive }))
    × IsSettledBehind [] (set queue 0 (record own { mode = Exclusive })) × AreOnce (set queue 0 (record own { mode = Exclusive }))
upgraded [] t own s o f g e n = absurd cc
upgraded (r ∷ rs) t own s o f g e n = by (r.transaction == t) refl f
  where
    by : (b : Bool) → (r.transaction == t) ≡ b → cond b (Some r) (request_in rs t) ≡ Some own →
        (0 < length (r ∷ rs)) × (cond b (record r { mode = stronger r.mode Exclusive } ∷ rs) (r ∷ with_request rs (record { transaction = t; mode = Exclusive; granted = true })) ≡ record own { mode = Exclusive } ∷ rs)
        × IsSettledBehind [] (record own { mode = Exclusive } ∷ rs) × AreOnce (record own { mode = Exclusive } ∷ rs)
    by true h k =
        let i : r ≡ own = cc in
        let gr : r.granted ≡ true = ap (λ (q : Request). q.granted) i ∙ g in
        let m = or_false (r.granted && not (r.transaction == t)) (list_any (λ q. q.granted && not (q.transaction == t)) rs) n in
        let P : Request → Type 0 = λ own. (0 < length (r ∷ rs)) × ((record r { mode = stronger r.mode Exclusive } ∷ rs) ≡ (record own { mode = Exclusive } ∷ rs))
        × IsSettledBehind [] (record own { mode = Exclusive } ∷ rs) × AreOnce (record own { mode = Exclusive } ∷ rs) in
        subst P i (omega arith, ap (λ x. record r { mode = x } ∷ rs) (strongest r.mode), back_true _ _ r.granted gr (refl, waiting_behind r t rs h o.0 m.1 (where_true _ _ r.granted gr s).1), o)
    by false h k =
        let m = or_false (r.granted && not (r.transaction == t)) (list_any (λ q. q.granted && not (q.transaction == t)) rs) n in
        let w : r.granted ≡ false = not_granted r.granted (rw h at m.0) in
        absurd (let z = found_waits rs t own (where_false _ _ r.granted w s).1 k in cc)

fits_where_granted : (a b : Bool) → cond a Granted (cond b Queued Died) ≡ Granted → a ≡ true
fits_where_granted true b e = refl
fits_where_granted false true e = absurd cc
fits_where_granted false false e = absurd cc

unfit_where_queued : (a b : Bool) → cond a Granted (cond b Queued Died) ≡ Queued → a ≡ false
unfit_where_queued true b e = absurd cc
unfit_where_queued false b e = refl

alone_where_granted : (a : Bool) → cond a Died Granted ≡ Granted → a ≡ false
alone_where_granted true e = absurd cc
alone_where_granted false e = refl

pub kept_granted : (queue : Queue) (t : ℕ) (mode : Mode) → IsSettled queue → stands_in queue t ≡ false → outcome_of_new queue t mode ≡ Granted →
    IsSettled (queue ++ record { transaction = t; mode = mode; granted = true } ∷ [])
kept_granted queue t mode s e o =
    let n : Request = record { transaction = t; mode = mode; granted = true } in
    (settled_grant [] queue n s.0 e (fits_where_granted (list_all (are_compatible n) queue) (list_all (λ r. nat_lt t r.transaction) queue) o) refl, once_push queue n s.1 e)

pub kept_waiting : (queue : Queue) (t : ℕ) (mode : Mode) → IsSettled queue → stands_in queue t ≡ false → outcome_of_new queue t mode ≡ Queued →
    IsSettled (queue ++ record { transaction = t; mode = mode; granted = false } ∷ [])
kept_waiting queue t mode s e o =
    let n : Request = record { transaction = t; mode = mode; granted = true } in
    let w : Request = record { transaction = t; mode = mode; granted = false } in
    (settled_wait [] queue w s.0 (unfit_where_queued (list_all (are_compatible n) queue) (list_all (λ r. nat_lt t r.transaction) queue) o) refl, once_push queue w s.1 e)

pub kept_without : (queue : Queue) (t : ℕ) → IsSettled queue → IsSettled (queue_without queue t)
kept_without queue t s =
    let p : Request → Bool = λ r. not (r.transaction == t) in
    (granted_settled [] (filter p queue) (sound_filter p [] queue (settled_sound [] queue s.0)), once_granted [] (filter p queue) (once_filter p queue s.1))

pub kept_upgraded : (queue : Queue) (own : Request) → IsSettled queue → request_in queue own.transaction ≡ Some own → own.granted ≡ true → is_exclusive own.mode ≡ false → outcome_of_upgrade queue own.transaction ≡ Granted →
    (0 < length queue) × (with_request queue (record { transaction = own.transaction; mode = Exclusive; granted = true }) ≡ set queue 0 (record own { mode = Exclusive }))
    × IsSettledBehind [] (set queue 0 (record own { mode = Exclusive })) × AreOnce (set queue 0 (record own { mode = Exclusive }))
kept_upgraded queue own s f g e o =
    upgraded queue own.transaction own s.0 s.1 f g e (alone_where_granted (list_any (λ r. r.granted && not (r.transaction == own.transaction)) queue) o)

pub either_covered : (a b c : Bool) → b ≡ a → (b ≡ true) ⊎ ((b ≡ false) × (c ≡ false)) → (a || not c) ≡ true
either_covered a b c e h = elim h [ inl f ↦ rw (sym e, f) | inr f ↦ rw (sym e, f.0, f.1) ]

pub new_outcome : (queue : Queue) (t : ℕ) (mode : Mode) → stands_in queue t ≡ false → outcome queue t mode ≡ outcome_of_new queue t mode
new_outcome queue t mode e = by (request_in queue t) (stands_is queue t ∙ e)
  where
    by : (o : Option Request) → is_some o ≡ false → outcome_beside queue t mode o ≡ outcome_of_new queue t mode
    by None f = refl
    by (Some r) f = absurd cc

-- the queue is settled once a request of a transaction of which none waits was answered
pub kept_after : (queue : Queue) (t : ℕ) (mode : Mode) (o : Outcome) → IsSettled queue → is_ungranted (request_in queue t) ≡ false → outcome queue t mode ≡ o → IsSettled (queue_after queue t mode o)
kept_after queue t x o s none is = by_own (request_in queue t) refl none is
  where
    n : Request
    n = record { transaction = t; mode = x; granted = true }

    new : (o : Outcome) → stands_in queue t ≡ false → outcome_of_new queue t x ≡ o → IsSettled (queue_after queue t x o)
    new Granted none e = subst IsSettled (sym (with_new queue n none)) (kept_granted queue t x s none e)
    new Queued none e = kept_waiting queue t x s none e
    new Died none e = s

    upgrade : (own : Request) (o : Outcome) → request_in queue t ≡ Some own → own.granted ≡ true → is_exclusive own.mode ≡ false → x ≡ Exclusive → outcome_of_upgrade queue t ≡ o → IsSettled (queue_after queue t x o)
    upgrade own Granted found granted shared exclusive e =
        let up = upgraded queue t own s.0 s.1 found granted shared (alone_where_granted (list_any (λ r. r.granted && not (r.transaction == t)) queue) e) in
        rw exclusive (subst IsSettled (sym up.1) (up.2, up.3))
    upgrade own Queued found granted shared exclusive e = absurd (not_queued (list_any (λ r. r.granted && not (r.transaction == t)) queue) e)
      where
        not_queued : (b : Bool) → cond b Died Granted ≡ Queued → ⊥
        not_queued true e = cc
        not_queued false e = cc
    upgrade own Died found granted shared exclusive e = s

    by_own : (own : Option Request) → request_in queue t ≡ own → is_ungranted own ≡ false → outcome_beside queue t x own ≡ o → IsSettled (queue_after queue t x o)
    by_own None found none e = new o (sym (stands_is queue t) ∙ ap is_some found) e
    by_own (Some own) found none e = by_cover (is_exclusive own.mode || not (is_exclusive x)) refl e
      where
        granted : own.granted ≡ true
        granted = turned own.granted none
          where
            turned : (b : Bool) → not b ≡ false → b ≡ true
            turned true e = refl
            turned false e = cc

        shared : (a b : Mode) → (is_exclusive a || not (is_exclusive b)) ≡ false → (is_exclusive a ≡ false) × (b ≡ Exclusive)
        shared Exclusive b e = absurd cc
        shared Shared Exclusive e = (refl, refl)
        shared Shared Shared e = absurd cc

        by_cover : (b : Bool) → (is_exclusive own.mode || not (is_exclusive x)) ≡ b → cond b Granted (outcome_of_upgrade queue t) ≡ o → IsSettled (queue_after queue t x o)
        by_cover true covers e = subst (λ o. IsSettled (queue_after queue t x o)) e (subst IsSettled (sym (with_covered queue n own found covers)) s)
        by_cover false covers e = let h = shared own.mode x covers in upgrade own o found granted h.0 h.1 e
