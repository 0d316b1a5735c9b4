-- Who holds which lock, as requests come and go: what a transaction holds is held until its own end, and nobody holds a
-- lock while another holds it exclusively.
use Rattle.std.proofs.Common.{◌≡◌, ℕ, ◌==◌, [], ◌∷◌, ◌++◌, Option, Some, None, Bool, true, false, ◌||◌, ◌&&◌, ◌⊎◌, inl, inr, not, cond, refl, sym, ◌∙◌, ap, subst, arith}
use Rattle.std.specs.Prelude.{MatchBool, filter}
use Rattle.std.specs.List.{list_all}
use Rattle.std.proofs.lemmas.List.Folds.{list_all-append}
use Rattle.std.proofs.lemmas.Bool.Decides.{nat_tests}
use Rattle.pc_types.specs.declared.Mode.{Mode}
use Rattle.pc_types.specs.declared.Mode.TheVariants.{Shared, Exclusive}
use Rattle.pc_types.specs.declared.Request.{Request}
use Rattle.pc_model.specs.Locks.{Queue, is_exclusive, stronger, are_compatible, request_in, granted_behind, with_request, queue_without, is_ungranted}
use Rattle.pc_model.specs.Queues.{AllWait, IsSettledBehind, IsSettled, stands_in, is_granted_as, holds, grant}
use Rattle.pc_model.proofs.QueueLaws.{stands_granted, found_waits, and_true}

same_number : (a b : ℕ) → (a == b) ≡ true → a ≡ b
same_number a b e = grind (arith, nat_tests)

is_itself : (a : ℕ) → (a == a) ≡ true
is_itself a = grind (arith, nat_tests)

-- whoever has one number has no other
not_both : (r n m : ℕ) → (r == n) ≡ true → (n == m) ≡ false → (r == m) ≡ false
not_both r n m e f = ap (λ k. k == m) (same_number r n e) ∙ f

-- a request leaves those of others
pub other_with : (queue : Queue) (n : Request) (m : ℕ) → (n.transaction == m) ≡ false → request_in (with_request queue n) m ≡ request_in queue m
other_with [] n m e = rw e refl
other_with (r ∷ rs) n m e = by_own (r.transaction == n.transaction) refl (other_with rs n m e)
  where
    by_own : (b : Bool) → (r.transaction == n.transaction) ≡ b → request_in (with_request rs n) m ≡ request_in rs m →
        request_in (cond b (record r { mode = stronger r.mode n.mode } ∷ rs) (r ∷ with_request rs n)) m ≡ cond (r.transaction == m) (Some r) (request_in rs m)
    by_own true own later = rw (not_both r.transaction n.transaction m own e) refl
    by_own false own later = ap (cond (r.transaction == m) (Some r)) later

pub other_push : (queue : Queue) (n : Request) (m : ℕ) → (n.transaction == m) ≡ false → request_in (queue ++ n ∷ []) m ≡ request_in queue m
other_push [] n m e = rw e refl
other_push (r ∷ rs) n m e = ap (cond (r.transaction == m) (Some r)) (other_push rs n m e)

granted_now : (g : Bool) (x y : Mode) → not g ≡ false → (g && (is_exclusive (stronger x y) || not (is_exclusive y))) ≡ true
granted_now true Exclusive y e = refl
granted_now true Shared Exclusive e = refl
granted_now true Shared Shared e = refl
granted_now false x y e = cc

covers_itself : (y : Mode) → (is_exclusive y || not (is_exclusive y)) ≡ true
covers_itself Exclusive = refl
covers_itself Shared = refl

-- one whose request is granted holds the lock
pub own_with : (queue : Queue) (t : ℕ) (mode : Mode) → is_ungranted (request_in queue t) ≡ false → holds (with_request queue (record { transaction = t; mode = mode; granted = true })) t mode ≡ true
own_with [] t x e = rw (is_itself t) (covers_itself x)
own_with (r ∷ rs) t x e = by_own (r.transaction == t) refl e (own_with rs t x)
  where
    by_own : (b : Bool) → (r.transaction == t) ≡ b → is_ungranted (cond b (Some r) (request_in rs t)) ≡ false → (is_ungranted (request_in rs t) ≡ false → holds (with_request rs (record { transaction = t; mode = x; granted = true })) t x ≡ true) →
        holds (cond b (record r { mode = stronger r.mode x } ∷ rs) (r ∷ with_request rs (record { transaction = t; mode = x; granted = true }))) t x ≡ true
    by_own true own e later = rw own (granted_now r.granted r.mode x e)
    by_own false own e later = rw own (later e)

covers_still : (g : Bool) (x y : Mode) (z : Bool) → (g && (is_exclusive x || z)) ≡ true → (g && (is_exclusive (stronger x y) || z)) ≡ true
covers_still true Exclusive y z e = refl
covers_still true Shared Exclusive z e = refl
covers_still true Shared Shared z e = e
covers_still false x y z e = cc

-- a lock that is held stays held while another requests it
pub keeps_with : (queue : Queue) (n : Request) (m : ℕ) (x : Mode) → holds queue m x ≡ true → holds (with_request queue n) m x ≡ true
keeps_with [] n m x e = cc
keeps_with (r ∷ rs) n m x e = by_own (r.transaction == n.transaction) (r.transaction == m) refl e (keeps_with rs n m x)
  where
    by_own : (b c : Bool) → (r.transaction == m) ≡ c → is_granted_as x (cond c (Some r) (request_in rs m)) ≡ true → (holds rs m x ≡ true → holds (with_request rs n) m x ≡ true) →
        holds (cond b (record r { mode = stronger r.mode n.mode } ∷ rs) (r ∷ with_request rs n)) m x ≡ true
    by_own true true own e later = rw own (covers_still r.granted r.mode n.mode (not (is_exclusive x)) e)
    by_own true false own e later = rw own e
    by_own false true own e later = rw own e
    by_own false false own e later = rw own (later e)

pub keeps_push : (queue : Queue) (n : Request) (m : ℕ) (x : Mode) → holds queue m x ≡ true → holds (queue ++ n ∷ []) m x ≡ true
keeps_push [] n m x e = cc
keeps_push (r ∷ rs) n m x e = by_own (r.transaction == m) e (keeps_push rs n m x)
  where
    by_own : (c : Bool) → is_granted_as x (cond c (Some r) (request_in rs m)) ≡ true → (holds rs m x ≡ true → holds (rs ++ n ∷ []) m x ≡ true) → is_granted_as x (cond c (Some r) (request_in (rs ++ n ∷ []) m)) ≡ true
    by_own true e later = e
    by_own false e later = later e

granted_still : (g z : Bool) → (g && z) ≡ true → z ≡ true
granted_still true z e = e
granted_still false z e = cc

-- and while others are granted theirs
keeps_granting : (before rs : Queue) (m : ℕ) (x : Mode) → holds rs m x ≡ true → holds (granted_behind before rs) m x ≡ true
keeps_granting before [] m x e = cc
keeps_granting before (r ∷ rs) m x e = by_own (list_all (are_compatible r) before) (r.transaction == m) refl e (keeps_granting (before ++ grant r ∷ []) rs m x)
  where
    by_own : (b c : Bool) → (r.transaction == m) ≡ c → is_granted_as x (cond c (Some r) (request_in rs m)) ≡ true → (holds rs m x ≡ true → holds (granted_behind (before ++ grant r ∷ []) rs) m x ≡ true) →
        holds (cond b (grant r ∷ granted_behind (before ++ grant r ∷ []) rs) (r ∷ rs)) m x ≡ true
    by_own true true own e later = rw own (granted_still r.granted (is_exclusive r.mode || not (is_exclusive x)) e)
    by_own true false own e later = rw own (later e)
    by_own false c own e later = rw own e

-- one request removed leaves those of others
other_filter : (queue : Queue) (n m : ℕ) → (n == m) ≡ false → request_in (filter (λ r. not (r.transaction == n)) queue) m ≡ request_in queue m
other_filter [] n m e = refl
other_filter (r ∷ rs) n m e = by_own (r.transaction == n) refl (other_filter rs n m e)
  where
    by_own : (b : Bool) → (r.transaction == n) ≡ b → request_in (filter (λ r. not (r.transaction == n)) rs) m ≡ request_in rs m →
        request_in (cond (not b) (r ∷ filter (λ r. not (r.transaction == n)) rs) (filter (λ r. not (r.transaction == n)) rs)) m ≡ cond (r.transaction == m) (Some r) (request_in rs m)
    by_own true own later = rw (not_both r.transaction n m own e) later
    by_own false own later = ap (cond (r.transaction == m) (Some r)) later

-- a lock that is held stays held when another ends
pub keeps_without : (queue : Queue) (n m : ℕ) (x : Mode) → (n == m) ≡ false → holds queue m x ≡ true → holds (queue_without queue n) m x ≡ true
keeps_without queue n m x e h = keeps_granting [] (filter (λ r. not (r.transaction == n)) queue) m x (ap (is_granted_as x) (other_filter queue n m e) ∙ h)

waits_granting : (before rs : Queue) (m : ℕ) → is_ungranted (request_in (granted_behind before rs) m) ≡ true → is_ungranted (request_in rs m) ≡ true
waits_granting before [] m e = e
waits_granting before (r ∷ rs) m e = by_own (list_all (are_compatible r) before) (r.transaction == m) refl e (waits_granting (before ++ grant r ∷ []) rs m)
  where
    by_own : (b c : Bool) → (r.transaction == m) ≡ c → is_ungranted (request_in (cond b (grant r ∷ granted_behind (before ++ grant r ∷ []) rs) (r ∷ rs)) m) ≡ true →
        (is_ungranted (request_in (granted_behind (before ++ grant r ∷ []) rs) m) ≡ true → is_ungranted (request_in rs m) ≡ true) → is_ungranted (cond c (Some r) (request_in rs m)) ≡ true
    by_own true true own e later = absurd (let h = rw own at e in cc)
    by_own true false own e later = later (rw own at e)
    by_own false c own e later = rw own at e

-- who waits after another's end waited before
pub waits_without : (queue : Queue) (n m : ℕ) → (n == m) ≡ false → is_ungranted (request_in (queue_without queue n) m) ≡ true → is_ungranted (request_in queue m) ≡ true
waits_without queue n m e w = ap is_ungranted (sym (other_filter queue n m e)) ∙ waits_granting [] (filter (λ r. not (r.transaction == n)) queue) m w

-- who holds does not wait
pub holds_waits : (queue : Queue) (m : ℕ) (x : Mode) → holds queue m x ≡ true → is_ungranted (request_in queue m) ≡ false
holds_waits queue m x h = by_own (request_in queue m) h
  where
    by_own : (o : Option Request) → is_granted_as x o ≡ true → is_ungranted o ≡ false
    by_own None e = cc
    by_own (Some r) e = ap not (and_true r.granted (is_exclusive r.mode || not (is_exclusive x)) e).0

-- who waits is in the queue
pub waits_stands : (queue : Queue) (m : ℕ) → is_ungranted (request_in queue m) ≡ true → stands_in queue m ≡ true
waits_stands [] m e = cc
waits_stands (r ∷ rs) m e = by_own (r.transaction == m) e (waits_stands rs m)
  where
    by_own : (c : Bool) → is_ungranted (cond c (Some r) (request_in rs m)) ≡ true → (is_ungranted (request_in rs m) ≡ true → stands_in rs m ≡ true) → (c || stands_in rs m) ≡ true
    by_own true e later = refl
    by_own false e later = later e

-- who is in the queue after a request was there before, or made it
pub stands_with : (queue : Queue) (n : Request) (m : ℕ) → stands_in (with_request queue n) m ≡ true → ((n.transaction == m) ≡ true) ⊎ (stands_in queue m ≡ true)
stands_with [] n m e = inl (left (n.transaction == m) e)
  where
    left : (b : Bool) → (b || false) ≡ true → b ≡ true
    left true e = refl
    left false e = cc
stands_with (r ∷ rs) n m e = by_own (r.transaction == n.transaction) (r.transaction == m) refl e (stands_with rs n m)
  where
    by_own : (b c : Bool) → (r.transaction == m) ≡ c → stands_in (cond b (record r { mode = stronger r.mode n.mode } ∷ rs) (r ∷ with_request rs n)) m ≡ true →
        (stands_in (with_request rs n) m ≡ true → ((n.transaction == m) ≡ true) ⊎ (stands_in rs m ≡ true)) → ((n.transaction == m) ≡ true) ⊎ ((c || stands_in rs m) ≡ true)
    by_own b true own e later = inr refl
    by_own true false own e later = inr (rw own at e)
    by_own false false own e later = later (rw own at e)

pub stands_push : (queue : Queue) (n : Request) (m : ℕ) → stands_in (queue ++ n ∷ []) m ≡ true → ((n.transaction == m) ≡ true) ⊎ (stands_in queue m ≡ true)
stands_push [] n m e = stands_with [] n m e
stands_push (r ∷ rs) n m e = by_own (r.transaction == m) e (stands_push rs n m)
  where
    by_own : (c : Bool) → (c || stands_in (rs ++ n ∷ []) m) ≡ true → (stands_in (rs ++ n ∷ []) m ≡ true → ((n.transaction == m) ≡ true) ⊎ (stands_in rs m ≡ true)) → ((n.transaction == m) ≡ true) ⊎ ((c || stands_in rs m) ≡ true)
    by_own true e later = inr refl
    by_own false e later = later e

pub stands_without : (queue : Queue) (n m : ℕ) → stands_in (queue_without queue n) m ≡ true → stands_in queue m ≡ true
stands_without queue n m e = filtered queue (sym (stands_granted [] (filter (λ r. not (r.transaction == n)) queue) m) ∙ e)
  where
    filtered : (rs : Queue) → stands_in (filter (λ r. not (r.transaction == n)) rs) m ≡ true → stands_in rs m ≡ true
    filtered [] e = e
    filtered (r ∷ rs) e = by_own (not (r.transaction == n)) (r.transaction == m) refl e (filtered rs)
      where
        by_own : (b c : Bool) → (r.transaction == m) ≡ c → stands_in (cond b (r ∷ filter (λ r. not (r.transaction == n)) rs) (filter (λ r. not (r.transaction == n)) rs)) m ≡ true →
            (stands_in (filter (λ r. not (r.transaction == n)) rs) m ≡ true → stands_in rs m ≡ true) → (c || stands_in rs m) ≡ true
        by_own b true own e later = refl
        by_own true false own e later = later (rw own at e)
        by_own false false own e later = later e

-- each request of the queue passes what all of it pass
abbrev IsIn : Queue → Request → Type 0
IsIn queue r = (f : Request → Bool) → list_all f queue ≡ true → f r ≡ true

in_push : (queue : Queue) (n r : Request) → IsIn queue r → IsIn (queue ++ n ∷ []) r
in_push queue n r within f all = within f (and_true (list_all f queue) (list_all f (n ∷ [])) (sym (list_all-append f queue (n ∷ [])) ∙ all)).0

is_last : (queue : Queue) (n : Request) → IsIn (queue ++ n ∷ []) n
is_last queue n f all = (and_true (f n) true (and_true (list_all f queue) (list_all f (n ∷ [])) (sym (list_all-append f queue (n ∷ [])) ∙ all)).1).0

granted_fits : (before rs : Queue) (b q : Request) (m : ℕ) → IsSettledBehind before rs → IsIn before b → request_in rs m ≡ Some q → q.granted ≡ true → are_compatible q b ≡ true
granted_fits before [] b q m s within found granted = cc
granted_fits before (r ∷ rs) b q m s within found granted = by_own (r.transaction == m) (λ then there. granted_fits (before ++ r ∷ []) rs b q m then (in_push before r b within) there granted) found
  where
    Later : Type 0
    Later = IsSettledBehind (before ++ r ∷ []) rs → request_in rs m ≡ Some q → are_compatible q b ≡ true

    by_grant : Later → (g : Bool) → MatchBool g ((list_all (are_compatible r) before ≡ true) × IsSettledBehind (before ++ r ∷ []) rs) ((list_all (are_compatible r) before ≡ false) × AllWait rs) →
        request_in rs m ≡ Some q → are_compatible q b ≡ true
    by_grant later true s found = later s.1 found
    by_grant later false s found = absurd (let h = found_waits rs m q s.1 found in cc)

    own_fits : (g : Bool) → g ≡ true → MatchBool g ((list_all (are_compatible r) before ≡ true) × IsSettledBehind (before ++ r ∷ []) rs) ((list_all (are_compatible r) before ≡ false) × AllWait rs) → are_compatible r b ≡ true
    own_fits true e s = within (are_compatible r) s.0
    own_fits false e s = cc

    by_own : (c : Bool) → Later → cond c (Some r) (request_in rs m) ≡ Some q → are_compatible q b ≡ true
    by_own true later found = let is : r ≡ q = cc in subst (λ (p : Request). are_compatible p b ≡ true) is (own_fits r.granted (ap (λ (p : Request). p.granted) is ∙ granted) s)
    by_own false later found = by_grant later r.granted s found

-- two granted requests are compatible, the later one with the other
both_fit : (before rs : Queue) (p q : Request) (m n : ℕ) → (m == n) ≡ false → IsSettledBehind before rs → request_in rs m ≡ Some p → p.granted ≡ true → request_in rs n ≡ Some q → q.granted ≡ true →
    (are_compatible q p ≡ true) ⊎ (are_compatible p q ≡ true)
both_fit before [] p q m n apart s first gp second gq = cc
both_fit before (r ∷ rs) p q m n apart s first gp second gq = by_own (λ then one two. both_fit (before ++ r ∷ []) rs p q m n apart then one gp two gq) (r.transaction == m) (r.transaction == n) refl refl first second
  where
    Later : Type 0
    Later = IsSettledBehind (before ++ r ∷ []) rs → request_in rs m ≡ Some p → request_in rs n ≡ Some q → (are_compatible q p ≡ true) ⊎ (are_compatible p q ≡ true)

    rest : (g : Bool) → g ≡ true → MatchBool g ((list_all (are_compatible r) before ≡ true) × IsSettledBehind (before ++ r ∷ []) rs) ((list_all (are_compatible r) before ≡ false) × AllWait rs) → IsSettledBehind (before ++ r ∷ []) rs
    rest true e s = s.1
    rest false e s = cc

    behind : Later → (g : Bool) → MatchBool g ((list_all (are_compatible r) before ≡ true) × IsSettledBehind (before ++ r ∷ []) rs) ((list_all (are_compatible r) before ≡ false) × AllWait rs) →
        request_in rs m ≡ Some p → request_in rs n ≡ Some q → (are_compatible q p ≡ true) ⊎ (are_compatible p q ≡ true)
    behind later true s first second = later s.1 first second
    behind later false s first second = absurd (let h = found_waits rs m p s.1 first in cc)

    by_own : Later → (b c : Bool) → (r.transaction == m) ≡ b → (r.transaction == n) ≡ c → cond b (Some r) (request_in rs m) ≡ Some p → cond c (Some r) (request_in rs n) ≡ Some q →
        (are_compatible q p ≡ true) ⊎ (are_compatible p q ≡ true)
    by_own later true true is_m is_n first second = absurd (let h = not_both r.transaction m n is_m apart in let k : true ≡ false = sym is_n ∙ h in cc)
    by_own later true false is_m is_n first second =
        let is : r ≡ p = cc in
        let granted : r.granted ≡ true = ap (λ (x : Request). x.granted) is ∙ gp in
        inl (granted_fits (before ++ r ∷ []) rs p q n (rest r.granted granted s) (subst (λ (x : Request). IsIn (before ++ r ∷ []) x) is (is_last before r)) second gq)
    by_own later false true is_m is_n first second =
        let is : r ≡ q = cc in
        let granted : r.granted ≡ true = ap (λ (x : Request). x.granted) is ∙ gq in
        inr (granted_fits (before ++ r ∷ []) rs q p m (rest r.granted granted s) (subst (λ (x : Request). IsIn (before ++ r ∷ []) x) is (is_last before r)) first gp)
    by_own later false false is_m is_n first second = behind later r.granted s first second

-- the request of a transaction is of that transaction
found_own : (queue : Queue) (m : ℕ) (p : Request) → request_in queue m ≡ Some p → p.transaction ≡ m
found_own [] m p found = cc
found_own (r ∷ rs) m p found = by_own (r.transaction == m) (found_own rs m p) refl found
  where
    by_own : (b : Bool) → (request_in rs m ≡ Some p → p.transaction ≡ m) → (r.transaction == m) ≡ b → cond b (Some r) (request_in rs m) ≡ Some p → p.transaction ≡ m
    by_own true later own found = let is : r ≡ p = cc in ap (λ (x : Request). x.transaction) (sym is) ∙ same_number r.transaction m own
    by_own false later own found = later found

apart_shared : (a b : ℕ) (x y : Bool) → (a == b) ≡ false → ((a == b) || (not x && not y)) ≡ true → y ≡ false
apart_shared a b x true apart fits = by_shared x (rw apart at fits)
  where
    by_shared : (x : Bool) → (not x && false) ≡ true → true ≡ false
    by_shared true e = cc
    by_shared false e = cc
apart_shared a b x false apart fits = refl

-- while an exclusive lock is held no other is
pub alone : (queue : Queue) (m n : ℕ) → IsSettled queue → holds queue m Exclusive ≡ true → holds queue n Shared ≡ true → (m == n) ≡ true
alone queue m n s first second = by_apart (m == n) refl
  where
    exclusive : (g x : Bool) → (g && (x || false)) ≡ true → (g ≡ true) × (x ≡ true)
    exclusive true true e = (refl, refl)
    exclusive true false e = cc
    exclusive false x e = cc

    granted : (g z : Bool) → (g && z) ≡ true → g ≡ true
    granted true z e = refl
    granted false z e = cc

    by_both : (o u : Option Request) → request_in queue m ≡ o → request_in queue n ≡ u → is_granted_as Exclusive o ≡ true → is_granted_as Shared u ≡ true → (m == n) ≡ false → ⊥
    by_both None u fm fn first second apart = cc
    by_both (Some p) None fm fn first second apart = cc
    by_both (Some p) (Some q) fm fn first second apart =
        let held = exclusive p.granted (is_exclusive p.mode) first in
        let gq = granted q.granted (is_exclusive q.mode || true) second in
        let pq : (p.transaction == q.transaction) ≡ false = ap (λ k. k == q.transaction) (found_own queue m p fm) ∙ (ap (λ k. m == k) (found_own queue n q fn) ∙ apart) in
        let qp : (q.transaction == p.transaction) ≡ false = flip p.transaction q.transaction pq in
        elim (both_fit [] queue p q m n apart s.0 fm held.0 fn gq) [
          | inl fits ↦ let h = apart_shared q.transaction p.transaction (is_exclusive q.mode) (is_exclusive p.mode) qp fits in let k : true ≡ false = sym held.1 ∙ h in cc
          | inr fits ↦ let h = apart_shared p.transaction q.transaction (is_exclusive p.mode) (is_exclusive q.mode) pq fits in let k : is_exclusive p.mode ≡ false = first_shared p.transaction q.transaction (is_exclusive p.mode) (is_exclusive q.mode) pq fits in let l : true ≡ false = sym held.1 ∙ k in cc
        ]
      where
        flip : (a b : ℕ) → (a == b) ≡ false → (b == a) ≡ false
        flip a b e = grind (arith, nat_tests)

        first_shared : (a b : ℕ) (x y : Bool) → (a == b) ≡ false → ((a == b) || (not x && not y)) ≡ true → x ≡ false
        first_shared a b true y apart fits = let h : false ≡ true = rw apart at fits in cc
        first_shared a b false y apart fits = refl

    by_apart : (b : Bool) → (m == n) ≡ b → b ≡ true
    by_apart true e = refl
    by_apart false e = absurd (by_both (request_in queue m) (request_in queue n) refl refl first second e)
