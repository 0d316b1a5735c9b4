-- What is read off a log with entries appended.
use Rattle.std.proofs.Common.{◌≡◌, ℕ, zero, suc, ◌+◌, List, [], ◌∷◌, ◌++◌, append-nil, refl, sym, ap, ◌∙◌, Bool, true, false, ◌||◌, eqb, arith, ◌⊎◌, inl, inr}
use Rattle.std.specs.Prelude.{if◌then◌else◌}
use Rattle.pc_types.specs.declared.Entry.{Entry}
use Rattle.pc_types.specs.declared.Entry.TheVariants.{Commit, Token}
use Rattle.pc_model.specs.Database.{Database}
use Rattle.pc_model.specs.Log.{after, front, log_after_point, has_token, is_token_of, state_at}
use Rattle.pc_model.specs.Standing.{PrecedesNext}
use Rattle.pc_model.specs.Points.{with_keys, with_written, cycle, touched, triples_at_point, part_of}
use Rattle.pc_model.proofs.States.{cycle_next}

-- a token is in either piece
pub has_token-append : (n : ℕ) (l more : List Entry) → has_token n (l ++ more) ≡ (has_token n l || has_token n more)
has_token-append n [] more = refl
has_token-append n (Commit s ws ∷ l) more = has_token-append n l more
has_token-append n (Token phase m ∷ l) more = elim (is_token_of n phase m) as (λ b. (if b then true else has_token n (l ++ more)) ≡ ((if b then true else has_token n l) || has_token n more)) [ true ↦ refl | false ↦ has_token-append n l more ]

-- once the point's token is there, the log before it stays
pub front_kept : (n : ℕ) (l more : List Entry) → has_token n l ≡ true → front n (l ++ more) ≡ front n l
front_kept n [] more there = cc
front_kept n (Commit s ws ∷ l) more there = ap (◌∷◌ (Commit s ws)) (front_kept n l more there)
front_kept n (Token phase m ∷ l) more there = by_token (is_token_of n phase m) there (front_kept n l more)
  where
    by_token : (b : Bool) → (if b then true else has_token n l) ≡ true → (has_token n l ≡ true → front n (l ++ more) ≡ front n l) →
        (if b then [] else Token phase m ∷ front n (l ++ more)) ≡ (if b then [] else Token phase m ∷ front n l)
    by_token true there later = refl
    by_token false there later = ap (◌∷◌ (Token phase m)) (later there)

-- and the log after it grows at its end
pub behind_kept : (n : ℕ) (l more : List Entry) → has_token n l ≡ true → log_after_point n (l ++ more) ≡ log_after_point n l ++ more
behind_kept n [] more there = cc
behind_kept n (Commit s ws ∷ l) more there = behind_kept n l more there
behind_kept n (Token phase m ∷ l) more there = by_token (is_token_of n phase m) there (behind_kept n l more)
  where
    by_token : (b : Bool) → (if b then true else has_token n l) ≡ true → (has_token n l ≡ true → log_after_point n (l ++ more) ≡ log_after_point n l ++ more) →
        (if b then l ++ more else log_after_point n (l ++ more)) ≡ (if b then l else log_after_point n l) ++ more
    by_token true there later = refl
    by_token false there later = later there

-- if the first piece lacks the token, the front goes on into the second
pub front_past : (n : ℕ) (l more : List Entry) → has_token n l ≡ false → front n (l ++ more) ≡ l ++ front n more
front_past n [] more none = refl
front_past n (Commit s ws ∷ l) more none = ap (◌∷◌ (Commit s ws)) (front_past n l more none)
front_past n (Token phase m ∷ l) more none = by_token (is_token_of n phase m) none (front_past n l more)
  where
    by_token : (b : Bool) → (if b then true else has_token n l) ≡ false → (has_token n l ≡ false → front n (l ++ more) ≡ l ++ front n more) →
        (if b then [] else Token phase m ∷ front n (l ++ more)) ≡ Token phase m ∷ l ++ front n more
    by_token true none later = cc
    by_token false none later = ap (◌∷◌ (Token phase m)) (later none)

-- and what is after it is in the second
pub behind_past : (n : ℕ) (l more : List Entry) → has_token n l ≡ false → log_after_point n (l ++ more) ≡ log_after_point n more
behind_past n [] more none = refl
behind_past n (Commit s ws ∷ l) more none = behind_past n l more none
behind_past n (Token phase m ∷ l) more none = by_token (is_token_of n phase m) none (behind_past n l more)
  where
    by_token : (b : Bool) → (if b then true else has_token n l) ≡ false → (has_token n l ≡ false → log_after_point n (l ++ more) ≡ log_after_point n more) →
        (if b then l ++ more else log_after_point n (l ++ more)) ≡ log_after_point n more
    by_token true none later = cc
    by_token false none later = later none

-- a log without the token is its own front
pub front_whole : (n : ℕ) (l : List Entry) → has_token n l ≡ false → front n l ≡ l
front_whole n l none = ap (front n) (sym (append-nil l)) ∙ front_past n l [] none ∙ append-nil l

-- a token that the log lacks is in no piece of it
pub none_behind : (n m : ℕ) (l : List Entry) → has_token n l ≡ false → has_token n (log_after_point m l) ≡ false
none_behind n m [] none = refl
none_behind n m (Commit s ws ∷ l) none = none_behind n m l none
none_behind n m (Token phase k ∷ l) none = by_token (is_token_of n phase k) (is_token_of m phase k) none (none_behind n m l)
  where
    by_token : (b c : Bool) → (if b then true else has_token n l) ≡ false → (has_token n l ≡ false → has_token n (log_after_point m l) ≡ false) →
        has_token n (if c then l else log_after_point m l) ≡ false
    by_token true c none later = cc
    by_token false true none later = none
    by_token false false none later = later none

-- written keys of a log in two pieces
pub with_written-append : (keys : List (List ℕ)) (l more : List Entry) → with_written keys (l ++ more) ≡ with_written (with_written keys l) more
with_written-append keys [] more = refl
with_written-append keys (Commit s ws ∷ l) more = with_written-append (with_keys keys ws) l more
with_written-append keys (Token phase m ∷ l) more = with_written-append keys l more

-- a token before another is in the log
pub in_front : (m n : ℕ) (l : List Entry) → has_token m (front n l) ≡ true → has_token m l ≡ true
in_front m n [] there = cc
in_front m n (Commit s ws ∷ l) there = in_front m n l there
in_front m n (Token phase k ∷ l) there = by_token (is_token_of n phase k) (is_token_of m phase k) refl there (in_front m n l)
  where
    by_token : (b c : Bool) → is_token_of m phase k ≡ c → has_token m (if b then [] else Token phase k ∷ front n l) ≡ true → (has_token m (front n l) ≡ true → has_token m l ≡ true) →
        (if c then true else has_token m l) ≡ true
    by_token b true e there later = refl
    by_token true false e there later = cc
    by_token false false e there later = later (rw e at there)

-- and the other comes after it
pub next_behind : (m n : ℕ) (l : List Entry) → has_token m (front n l) ≡ true → has_token n l ≡ true → has_token n (log_after_point m l) ≡ true
next_behind m n [] before there = cc
next_behind m n (Commit s ws ∷ l) before there = next_behind m n l before there
next_behind m n (Token phase k ∷ l) before there = by_token (is_token_of n phase k) (is_token_of m phase k) refl before there (next_behind m n l)
  where
    by_token : (b c : Bool) → is_token_of m phase k ≡ c → has_token m (if b then [] else Token phase k ∷ front n l) ≡ true → (if b then true else has_token n l) ≡ true →
        (has_token m (front n l) ≡ true → has_token n l ≡ true → has_token n (log_after_point m l) ≡ true) → has_token n (if c then l else log_after_point m l) ≡ true
    by_token true c e before there later = cc
    by_token false true e before there later = there
    by_token false false e before there later = later (rw e at before) there

-- the point is 0, or the log has its token
abbrev pub IsReached : ℕ → List Entry → Type 0
IsReached n l = (n ≡ 0) ⊎ (has_token n l ≡ true)

above_zero : (n : ℕ) → suc n ≡ 0 → ⊥
above_zero n e = omega (arith, e)

-- the point's cycle stays, once its token and that of the point before are there
pub cycle_kept : (n : ℕ) (l more : List Entry) → PrecedesNext n l → has_token (n + 1) l ≡ true → cycle (n + 1) (l ++ more) ≡ cycle (n + 1) l
cycle_kept zero l more before there = front_kept 1 l more there
cycle_kept (suc n) l more (inl e) there = absurd (above_zero n e)
cycle_kept (suc n) l more (inr before) there = cycle_next (l ++ more) n
    ∙ ap (front (suc n + 1)) (behind_kept (suc n) l more (in_front (suc n) (suc n + 1) l before))
    ∙ front_kept (suc n + 1) (log_after_point (suc n) l) more (next_behind (suc n) (suc n + 1) l before there)
    ∙ sym (cycle_next l n)

-- until its token is there, it grows with the log
pub cycle_more : (n : ℕ) (l more : List Entry) → IsReached n l → has_token (n + 1) l ≡ false → cycle (n + 1) (l ++ more) ≡ cycle (n + 1) l ++ front (n + 1) more
cycle_more zero l more reached none = front_past 1 l more none ∙ ap (λ piece. piece ++ front 1 more) (sym (front_whole 1 l none))
cycle_more (suc n) l more (inl e) none = absurd (above_zero n e)
cycle_more (suc n) l more (inr there) none =
    let still : has_token (suc n + 1) (log_after_point (suc n) l) ≡ false = none_behind (suc n + 1) (suc n) l none in
    cycle_next (l ++ more) n ∙ ap (front (suc n + 1)) (behind_kept (suc n) l more there)
    ∙ front_past (suc n + 1) (log_after_point (suc n) l) more still
    ∙ ap (λ piece. piece ++ front (suc n + 1) more) (sym (front_whole (suc n + 1) (log_after_point (suc n) l) still) ∙ sym (cycle_next l n))

-- the log after the last token is the cycle of the next point
pub cycle_open : (n : ℕ) (l : List Entry) → has_token (suc n + 1) l ≡ false → cycle (suc n + 1) l ≡ log_after_point (suc n) l
cycle_open n l none = cycle_next l n ∙ front_whole (suc n + 1) (log_after_point (suc n) l) (none_behind (suc n + 1) (suc n) l none)

-- the keys touched in the point's cycle stay
pub touched_kept : (n : ℕ) (l more : List Entry) → PrecedesNext n l → has_token (n + 1) l ≡ true → touched (n + 1) (l ++ more) ≡ touched (n + 1) l
touched_kept n l more before there = ap (with_written []) (cycle_kept n l more before there)

-- until its token is there, written keys join them
pub touched_more : (n : ℕ) (l more : List Entry) → IsReached n l → has_token (n + 1) l ≡ false → touched (n + 1) (l ++ more) ≡ with_written (touched (n + 1) l) (front (n + 1) more)
touched_more n l more reached none = ap (with_written []) (cycle_more n l more reached none) ∙ with_written-append [] (cycle (n + 1) l) (front (n + 1) more)

-- the state of the point stays
pub state_at_kept : (base : Database) (n : ℕ) (l more : List Entry) → IsReached n l → state_at base (l ++ more) n ≡ state_at base l n
state_at_kept base n l more (inl e) = rw e refl
state_at_kept base n l more (inr there) = ap (λ piece. if eqb n 0 then base else after base piece) (front_kept n l more there)

-- the point's part stays
pub part_of_kept : (base : Database) (n : ℕ) (l more : List Entry) → PrecedesNext n l → has_token (n + 1) l ≡ true → part_of base (l ++ more) (n + 1) ≡ part_of base l (n + 1)
part_of_kept base n l more before there =
    ap (λ db. triples_at_point (n + 1) db (touched (n + 1) (l ++ more))) (state_at_kept base (n + 1) l more (inr there))
    ∙ ap (triples_at_point (n + 1) (state_at base l (n + 1))) (touched_kept n l more before there)

-- the order of two tokens stays
pub order_kept : (n : ℕ) (l more : List Entry) → PrecedesNext n l → has_token (n + 1) l ≡ true → PrecedesNext n (l ++ more)
order_kept n l more (inl e) there = inl e
order_kept n l more (inr before) there = inr (ap (has_token n) (front_kept (n + 1) l more there) ∙ before)
