-- The log after the recovered point's token, and the tokens before it.
use Rattle.std.proofs.Common.{◌≡◌, ℕ, zero, suc, ◌+◌, ◌-◌, ◌<◌, max, eqb, Bool, true, false, cond, List, [], ◌∷◌, length, take, ◌⊎◌, inl, inr, refl, sym, ap, subst, ◌∙◌, arith}
use Rattle.std.proofs.Math.Dec.{eqb-suc-zero}
use Rattle.std.proofs.lemmas.Bool.Decides.{nat_tests}
use Rattle.pc_types.specs.declared.Phase.{Phase}
use Rattle.pc_types.specs.declared.Phase.TheVariants.{Rest, Prepare, Resolve, Capture, Complete}
use Rattle.pc_types.specs.declared.Entry.{Entry}
use Rattle.pc_types.specs.declared.Entry.TheVariants.{Commit, Token}
use Rattle.pc_types.specs.Phases.{next_phase, next_point}
use Rattle.pc_model.specs.Database.{Database, applied_all}
use Rattle.pc_model.specs.Log.{after, front, log_after_point, has_token, is_token_of, state_at}
use Rattle.pc_model.specs.Standing.{PrecedesNext}
use Rattle.pc_model.proofs.LogPieceLaws.{in_front}
use Rattle.pc_log.specs.Orders.{FollowFrom, InOrder}
use Rattle.pc_recover.specs.Recovery.{entries_after}
use Rattle.pc_recover.specs.Restarts.{token_number}

-- the last point whose token came before, by the last token's phase and point
abbrev last_sealed : Phase → ℕ → ℕ
last_sealed Prepare point = point - 1
last_sealed other point = point

token_here : (n m : ℕ) (log : List Entry) → n ≡ m → has_token n (Token Resolve m ∷ log) ≡ true
token_here n m log same = let is : eqb m n ≡ true = grind (arith, nat_tests, same) in ap (λ t. cond t true (has_token n log)) is

-- after a token of this phase and point too, the token of m comes before that of m + 1
abbrev Comes : ℕ → List Entry → Phase → ℕ → Type 0
Comes m log phase point = has_token (m + 1) (Token phase point ∷ log) ≡ true → has_token m (front (m + 1) (Token phase point ∷ log)) ≡ true

-- if tokens keep their order, a point's token comes after that of the point before, if that is still to come
earlier_token : (last : Phase) (point m : ℕ) (log : List Entry) → FollowFrom last point log → last_sealed last point < m → has_token (m + 1) log ≡ true → has_token m (front (m + 1) log) ≡ true
earlier_token last point m [] order more there = there
earlier_token last point m (Commit session writes ∷ log) order more there = earlier_token last point m log order more there
earlier_token last point m (Token phase p ∷ log) order more there =
    subst (λ q. FollowFrom phase q log → Comes m log phase q) (sym order.1)
    (subst (λ ph. FollowFrom ph (next_point last point) log → Comes m log ph (next_point last point)) (sym order.0) (next last more (λ last' point' o less t. earlier_token last' point' m log o less t)))
    order.2 there
  where
    sealed : ((last' : Phase) (point' : ℕ) → FollowFrom last' point' log → last_sealed last' point' < m → has_token (m + 1) log ≡ true → has_token m (front (m + 1) log) ≡ true) → last_sealed Prepare point < m → FollowFrom Resolve point log → Comes m log Resolve point
    sealed again less o t =
        let later : eqb point (m + 1) ≡ false = grind (arith, nat_tests, less) in
        let behind_it : has_token (m + 1) log ≡ true = sym (ap (λ b. cond b true (has_token (m + 1) log)) later) ∙ t in
        ap (λ b. has_token m (cond b [] (Token Resolve point ∷ front (m + 1) log))) later ∙ by (eqb point m) refl behind_it
      where
        by : (b : Bool) → eqb point m ≡ b → has_token (m + 1) log ≡ true → cond b true (has_token m (front (m + 1) log)) ≡ true
        by true is behind_it = refl
        by false is behind_it = again Resolve point o (grind (arith, nat_tests, less)) behind_it

    next : (last : Phase) → last_sealed last point < m → ((last' : Phase) (point' : ℕ) → FollowFrom last' point' log → last_sealed last' point' < m → has_token (m + 1) log ≡ true → has_token m (front (m + 1) log) ≡ true) → FollowFrom (next_phase last) (next_point last point) log → Comes m log (next_phase last) (next_point last point)
    next Rest less again o t = again Prepare (point + 1) o (omega (arith, less)) t
    next Prepare less again o t = sealed again less o t
    next Resolve less again o t = again Capture point o less t
    next Capture less again o t = again Complete point o less t
    next Complete less again o t = again Rest point o less t

-- so all points before one with a token have theirs, in order
in_order : (log : List Entry) → InOrder log → (p : ℕ) → has_token (p + 1) log ≡ true → PrecedesNext p log
in_order log order zero there = inl refl
in_order log order (suc p) there = inr (earlier_token Rest 0 (suc p) log order (omega arith) there)

pub all_in_order : (log : List Entry) → InOrder log → (n : ℕ) → ((n ≡ 0) ⊎ (has_token n log ≡ true)) → (p : ℕ) → p < n → PrecedesNext p log
all_in_order log order zero sealed p less = absurd (omega (arith, less))
all_in_order log order (suc n) (inl zeroth) p less = absurd (omega (arith, zeroth))
all_in_order log order (suc n) (inr there) p less =
    by (eqb p n) refl (λ below. all_in_order log order n (before (in_order log order n there')) p below)
  where
    there' : has_token (n + 1) log ≡ true
    there' = ap (λ k. has_token k log) (omega arith) ∙ there

    before : PrecedesNext n log → (n ≡ 0) ⊎ (has_token n log ≡ true)
    before (inl zeroth) = inl zeroth
    before (inr earlier) = inr (in_front n (n + 1) log earlier)

    by : (b : Bool) → eqb p n ≡ b → (p < n → PrecedesNext p log) → PrecedesNext p log
    by true is again = let same : p ≡ n = grind (arith, nat_tests) in subst (λ k. PrecedesNext k log) (sym same) (in_order log order n there')
    by false is again = again (grind (arith, nat_tests, less))

pub take_none : (log : List Entry) → take 0 log ≡ []
take_none [] = refl
take_none (entry ∷ log) = refl

no_both : false ≡ true → ⊥
no_both e = cc

-- the entries up to and including a point's token give the same database as those before it
to_token : (db : Database) (n : ℕ) (log : List Entry) → has_token n log ≡ true → after db (take (length (front n log) + 1) log) ≡ after db (front n log)
to_token db n [] there = absurd (no_both there)
to_token db n (Commit session writes ∷ log) there =
    let count : suc (length (front n log)) + 1 ≡ suc (length (front n log) + 1) = omega arith in
    ap (λ k. after db (take k (Commit session writes ∷ log))) count ∙ to_token (applied_all db writes) n log there
to_token db n (Token phase m ∷ log) there = by (is_token_of n phase m) refl there (λ h. to_token db n log h)
  where
    by : (b : Bool) → is_token_of n phase m ≡ b → cond b true (has_token n log) ≡ true → (has_token n log ≡ true → after db (take (length (front n log) + 1) log) ≡ after db (front n log))
        → after db (take (length (cond b [] (Token phase m ∷ front n log)) + 1) (Token phase m ∷ log)) ≡ after db (cond b [] (Token phase m ∷ front n log))
    by true is h again = ap (λ xs. after db xs) (take_none log)
    by false is h again =
        let count : suc (length (front n log)) + 1 ≡ suc (length (front n log) + 1) = omega arith in
        ap (λ k. after db (take k (Token phase m ∷ log))) count ∙ again h

-- those of the first p entries after the token, applied to the state before it, give the first entries as far as p or the token
after_token : (db : Database) (n p : ℕ) (log : List Entry) → has_token n log ≡ true → after (after db (front n log)) (log_after_point n (take p log)) ≡ after db (take (max p (length (front n log) + 1)) log)
after_token db n zero log there =
    ap (λ xs. after (after db (front n log)) (log_after_point n xs)) (take_none log) ∙ sym (to_token db n log there) ∙ ap (λ k. after db (take k log)) (omega arith)
after_token db n (suc p) [] there = absurd (no_both there)
after_token db n (suc p) (Commit session writes ∷ log) there =
    let count : suc (max p (length (front n log) + 1)) ≡ max (suc p) (suc (length (front n log)) + 1) = omega arith in
    after_token (applied_all db writes) n p log there ∙ ap (λ k. after db (take k (Commit session writes ∷ log))) count
after_token db n (suc p) (Token phase m ∷ log) there = by (is_token_of n phase m) refl there (λ h. after_token db n p log h)
  where
    by : (b : Bool) → is_token_of n phase m ≡ b → cond b true (has_token n log) ≡ true → (has_token n log ≡ true → after (after db (front n log)) (log_after_point n (take p log)) ≡ after db (take (max p (length (front n log) + 1)) log))
        → after (after db (cond b [] (Token phase m ∷ front n log))) (cond b (take p log) (log_after_point n (take p log))) ≡ after db (take (max (suc p) (length (cond b [] (Token phase m ∷ front n log)) + 1)) (Token phase m ∷ log))
    by true is h again = let count : suc p ≡ max (suc p) 1 = omega arith in ap (λ k. after db (take k (Token phase m ∷ log))) count
    by false is h again =
        let count : suc (max p (length (front n log) + 1)) ≡ max (suc p) (suc (length (front n log)) + 1) = omega arith in
        again h ∙ ap (λ k. after db (take k (Token phase m ∷ log))) count

-- the state of a point with the entries that come after it, of the first p, is the database after the first entries, as far
-- as p or the point's token
pub restored_entries : (start : Database) (log : List Entry) (n p : ℕ) → ((n ≡ 0) ⊎ (has_token n log ≡ true))
    → after (state_at start log n) (entries_after n (take p log)) ≡ after start (take (max p (token_number n log)) log)
restored_entries start log zero p sealed = ap (λ k. after start (take k log)) (omega arith)
restored_entries start log (suc n) p (inl zeroth) = absurd (omega (arith, zeroth))
restored_entries start log (suc n) p (inr there) = let other : eqb (suc n) 0 ≡ false = eqb-suc-zero n in rw other (after_token start (suc n) p log there)
