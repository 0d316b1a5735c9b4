-- Which tokens a history's log has, and what it says of the keys written and taken since the last one.
use Rattle.std.proofs.Common.{◌≡◌, ℕ, zero, suc, ◌+◌, ◌-◌, ◌≤◌, List, [], ◌∷◌, ◌++◌, append_assoc, eqb, ◌||◌, ◌&&◌, refl, sym, ap, subst, ◌∙◌, cond, Bool, true, false, inl, inr, arith}
use Rattle.std.specs.Prelude.{if◌then◌else◌, nat_lt, nat_le}
use Rattle.std.proofs.lemmas.Bool.Decides.{nat_tests}
use mathlib.Core.Bool.{false≢true}
use Rattle.pc_types.specs.declared.Write.{Write}
use Rattle.pc_types.specs.declared.Entry.{Entry}
use Rattle.pc_types.specs.declared.Entry.TheVariants.{Commit, Token}
use Rattle.pc_types.specs.declared.Phase.{Phase}
use Rattle.pc_types.specs.declared.Phase.TheVariants.{Rest, Prepare, Resolve}
use Rattle.pc_model.specs.Log.{front, log_after_point, has_token, is_resolve, is_token_of}
use Rattle.pc_model.specs.Standing.{PrecedesNext, sealed_in}
use Rattle.pc_model.specs.Database.{same_bytes}
use Rattle.pc_model.specs.Points.{cycle, touched, with_keys, with_written}
use Rattle.pc_model.specs.Replies.{without}
use Rattle.pc_model.specs.Headline.{is_taking}
use Rattle.std.specs.List.{IsDistinct}
use Rattle.pc_model.proofs.States.{cycle_next}
use Rattle.pc_model.proofs.LogPieceLaws.{IsReached, has_token-append, front_past, behind_past, touched_kept, touched_more, order_kept}
use Rattle.pc_model.proofs.TouchedKeyLaws.{touched_distinct, without_none, without_first}

-- the keys left to take, by the point, the log and the keys taken
abbrev pub left_of : ℕ → List Entry → List (List ℕ) → List (List ℕ)
left_of point log gone = if has_token point log then without (touched point log) gone else []

-- the phase is rest
abbrev pub is_rest : Phase → Bool
is_rest Rest = true
is_rest other = false

-- a token of another phase is no point's
pub no_token : (to : Phase) (n : ℕ) → is_resolve to ≡ false → (p : ℕ) → has_token p (Token to n ∷ []) ≡ false
no_token to n plain p = ap (λ b. if (b && eqb n p) then true else false) plain

-- a token writes no key
token_writes_none : (keys : List (List ℕ)) (p : ℕ) (to : Phase) (n : ℕ) → with_written keys (front p (Token to n ∷ [])) ≡ keys
token_writes_none keys p to n = elim (is_token_of p to n) as (λ b. with_written keys (if b then [] else Token to n ∷ []) ≡ keys) [ true ↦ refl | false ↦ refl ]

-- The invariant of a history: the log has the tokens of 1 to the last sealed point, in this order; the keys written since are
-- those of the next point's cycle; the keys taken and those left are the touched ones, and none is left if none may be.
pub record TokensStand (phase : Phase) (point : ℕ) (log : List Entry) (written gone : List (List ℕ)) : Type 0 where
  pub has : (p : ℕ) → has_token p log ≡ (nat_lt 0 p && nat_le p (sealed_in phase point))
  pub in_order : (p : ℕ) → has_token (p + 1) log ≡ true → PrecedesNext p log
  pub begun : is_rest phase ≡ false → 1 ≤ point
  pub open_keys : written ≡ touched (sealed_in phase point + 1) log
  pub all_keys : has_token point log ≡ true → gone ++ left_of point log gone ≡ touched point log
  pub idle : is_taking phase ≡ false → left_of point log gone ≡ []

-- at first
pub at_first : TokensStand Rest 0 [] [] []
at_first = record {
  has = λ p. no_point p;
  in_order = λ p there. cc;
  begun = λ e. cc;
  open_keys = refl;
  all_keys = λ there. cc;
  idle = λ _. refl;
}
  where
    no_point : (p : ℕ) → false ≡ (nat_lt 0 p && nat_le p 0)
    no_point p = grind (arith, nat_tests)

module _ (phase : Phase) (point : ℕ) (log : List Entry) (written gone : List (List ℕ)) (s : TokensStand phase point log written gone) where
  -- the last sealed point has its token, or is 0
  pub reached : IsReached (sealed_in phase point) log
  reached = by_point (sealed_in phase point) (s.has (sealed_in phase point))
    where
      by_point : (n : ℕ) → has_token n log ≡ (nat_lt 0 n && nat_le n n) → IsReached n log
      by_point zero e = inl refl
      by_point (suc n) e = inr (e ∙ both n)
        where
          both : (n : ℕ) → (nat_lt 0 (suc n) && nat_le (suc n) (suc n)) ≡ true
          both n = grind (arith, nat_tests)

  -- and the next one has none
  pub none_next : has_token (sealed_in phase point + 1) log ≡ false
  none_next = s.has (sealed_in phase point + 1) ∙ too_far (sealed_in phase point)
    where
      too_far : (n : ℕ) → (nat_lt 0 (n + 1) && nat_le (n + 1) n) ≡ false
      too_far n = grind (arith, nat_tests)

  -- entries without a point's token leave the tokens
  same_tokens : (more : List Entry) → ((p : ℕ) → has_token p more ≡ false) → (p : ℕ) → has_token p (log ++ more) ≡ has_token p log
  same_tokens more none p = has_token-append p log more ∙ ap (λ b. has_token p log || b) (none p) ∙ or_false (has_token p log)
    where
      or_false : (b : Bool) → (b || false) ≡ b
      or_false true = refl
      or_false false = refl

  -- the touched keys of a point whose token is there stay
  kept_at : (n : ℕ) (more : List Entry) → has_token n log ≡ true → touched n (log ++ more) ≡ touched n log
  kept_at zero more there = absurd (no_zero (sealed_in phase point) (sym (s.has zero) ∙ there))
    where
      no_zero : (n : ℕ) → (nat_lt 0 0 && nat_le 0 n) ≡ true → ⊥
      no_zero n e = cc
  kept_at (suc n) more there =
      let same : suc n ≡ n + 1 = omega arith in
      let there' : has_token (n + 1) log ≡ true = rw same at there in
      rw same (touched_kept n log more (s.in_order n there') there')

  pub left_kept : (more : List Entry) (gone : List (List ℕ)) → ((p : ℕ) → has_token p more ≡ false) → left_of point (log ++ more) gone ≡ left_of point log gone
  left_kept more gone none = ap (λ b. cond b (without (touched point (log ++ more)) gone) []) (same_tokens more none point) ∙ by_token (has_token point log) refl
    where
      by_token : (b : Bool) → has_token point log ≡ b → cond b (without (touched point (log ++ more)) gone) [] ≡ cond b (without (touched point log) gone) []
      by_token true there = ap (λ keys. without keys gone) (kept_at point more there)
      by_token false there = refl

  order_after : (more : List Entry) → ((p : ℕ) → has_token p more ≡ false) → (p : ℕ) → has_token (p + 1) (log ++ more) ≡ true → PrecedesNext p (log ++ more)
  order_after more none p there = let before : has_token (p + 1) log ≡ true = sym (same_tokens more none (p + 1)) ∙ there in order_kept p log more (s.in_order p before) before

  all_kept : (more : List Entry) → ((p : ℕ) → has_token p more ≡ false) → has_token point (log ++ more) ≡ true → gone ++ left_of point (log ++ more) gone ≡ touched point (log ++ more)
  all_kept more none there =
      let before : has_token point log ≡ true = sym (same_tokens more none point) ∙ there in
      ap (λ keys. gone ++ keys) (left_kept more gone none) ∙ s.all_keys before ∙ sym (kept_at point more before)

  open_after : (to : Phase) (n : ℕ) → written ≡ touched (sealed_in phase point + 1) (log ++ Token to n ∷ [])
  open_after to n = s.open_keys ∙ sym (touched_more (sealed_in phase point) log (Token to n ∷ []) reached none_next ∙ token_writes_none (touched (sealed_in phase point + 1) log) (sealed_in phase point + 1) to n)

  -- a commit
  pub stands_commit : (session : ℕ) (ws : List Write) → TokensStand phase point (log ++ Commit session ws ∷ []) (with_keys written ws) gone
  stands_commit session ws = record {
    has = λ p. same_tokens (Commit session ws ∷ []) (λ q. refl) p ∙ s.has p;
    in_order = order_after (Commit session ws ∷ []) (λ q. refl);
    begun = s.begun;
    open_keys = ap (λ keys. with_keys keys ws) s.open_keys ∙ sym (touched_more (sealed_in phase point) log (Commit session ws ∷ []) reached none_next);
    all_keys = all_kept (Commit session ws ∷ []) (λ q. refl);
    idle = λ e. left_kept (Commit session ws ∷ []) gone (λ q. refl) ∙ s.idle e;
  }

  -- another token than a point's, at the same last sealed point
  pub stands_token : (to : Phase) → is_resolve to ≡ false → sealed_in to point ≡ sealed_in phase point → (is_rest to ≡ false → is_rest phase ≡ false) → (is_taking to ≡ false → left_of point log gone ≡ []) →
      TokensStand to point (log ++ Token to point ∷ []) written gone
  stands_token to plain same past empty = record {
    has = λ p. same_tokens (Token to point ∷ []) (no_token to point plain) p ∙ s.has p ∙ ap (λ n. nat_lt 0 p && nat_le p n) (sym same);
    in_order = order_after (Token to point ∷ []) (no_token to point plain);
    begun = λ e. s.begun (past e);
    open_keys = open_after to point ∙ ap (λ n. touched (n + 1) (log ++ Token to point ∷ [])) (sym same);
    all_keys = all_kept (Token to point ∷ []) (no_token to point plain);
    idle = λ e. left_kept (Token to point ∷ []) gone (no_token to point plain) ∙ empty e;
  }

one_less : (n : ℕ) → n + 1 - 1 ≡ n
one_less n = omega arith

-- the next point is begun, from rest
pub stands_start : (point : ℕ) (log : List Entry) (written gone : List (List ℕ)) → TokensStand Rest point log written gone → TokensStand Prepare (point + 1) (log ++ Token Prepare (point + 1) ∷ []) written gone
stands_start point log written gone s = record {
  has = λ p. same p ∙ s.has p ∙ ap (λ n. nat_lt 0 p && nat_le p n) (sym (one_less point));
  in_order = order_after Rest point log written gone s more none;
  begun = λ e. omega arith;
  open_keys = open_after Rest point log written gone s Prepare (point + 1) ∙ ap (λ n. touched (n + 1) (log ++ more)) (sym (one_less point));
  all_keys = λ there. absurd (false≢true (sym lacks ∙ there));
  idle = λ e. ap (λ b. cond b (without (touched (point + 1) (log ++ more)) gone) []) lacks;
}
  where
    more : List Entry
    more = Token Prepare (point + 1) ∷ []

    none : (p : ℕ) → has_token p more ≡ false
    none = no_token Prepare (point + 1) refl

    same : (p : ℕ) → has_token p (log ++ more) ≡ has_token p log
    same = same_tokens Rest point log written gone s more none

    lacks : has_token (point + 1) (log ++ more) ≡ false
    lacks = same (point + 1) ∙ none_next Rest point log written gone s

own_token : (n : ℕ) → has_token n (Token Resolve n ∷ []) ≡ true
own_token n = let is : eqb n n ≡ true = grind (arith, nat_tests) in rw is refl

other_token : (p n : ℕ) → has_token p (Token Resolve n ∷ []) ≡ eqb n p
other_token p n = elim (eqb n p) as (λ b. (if b then true else false) ≡ b) [ true ↦ refl | false ↦ refl ]

module _ (point : ℕ) (log : List Entry) (written gone : List (List ℕ)) (s : TokensStand Prepare point log written gone) where
  abbrev sealed_log : List Entry
  sealed_log = log ++ Token Resolve point ∷ []

  one_up : point - 1 + 1 ≡ point
  one_up = let low : 1 ≤ point = s.begun refl in omega arith

  pub lacks_own : has_token point log ≡ false
  lacks_own = sym (ap (λ n. has_token n log) one_up) ∙ none_next Prepare point log written gone s

  has_own : has_token point sealed_log ≡ true
  has_own = has_token-append point log (Token Resolve point ∷ []) ∙ ap (λ b. has_token point log || b) (own_token point) ∙ or_true (has_token point log)
    where
      or_true : (b : Bool) → (b || true) ≡ true
      or_true true = refl
      or_true false = refl

  has_at : (p : ℕ) → has_token p sealed_log ≡ (nat_lt 0 p && nat_le p point)
  has_at p = has_token-append p log (Token Resolve point ∷ []) ∙ ap (λ b. has_token p log || b) (other_token p point) ∙ ap (λ b. b || eqb point p) (s.has p) ∙ one_more p point (s.begun refl)
    where
      one_more : (p n : ℕ) → 1 ≤ n → ((nat_lt 0 p && nat_le p (n - 1)) || eqb n p) ≡ (nat_lt 0 p && nat_le p n)
      one_more p n low = grind (arith, nat_tests)

  order_at : (p : ℕ) → has_token (p + 1) sealed_log ≡ true → PrecedesNext p sealed_log
  order_at p there = by_log (has_token (p + 1) log) refl
    where
      by_log : (b : Bool) → has_token (p + 1) log ≡ b → PrecedesNext p sealed_log
      by_log true before = order_kept p log (Token Resolve point ∷ []) (s.in_order p before) before
      by_log false none =
          let new : eqb point (p + 1) ≡ true = sym (other_token (p + 1) point) ∙ sym (ap (λ b. b || has_token (p + 1) (Token Resolve point ∷ [])) none) ∙ sym (has_token-append (p + 1) log (Token Resolve point ∷ [])) ∙ there in
          let is : point - 1 ≡ p = down point p new in
          before_own (rw is at (reached Prepare point log written gone s))
        where
          down : (n p : ℕ) → eqb n (p + 1) ≡ true → n - 1 ≡ p
          down n p e = grind (arith, nat_tests)

          before_own : IsReached p log → PrecedesNext p sealed_log
          before_own (inl e) = inl e
          before_own (inr own) = inr (ap (has_token p) (front_past (p + 1) log (Token Resolve point ∷ []) none)
              ∙ has_token-append p log (front (p + 1) (Token Resolve point ∷ [])) ∙ ap (λ b. b || has_token p (front (p + 1) (Token Resolve point ∷ []))) own)

  -- the point's touched keys are those written since the last token
  pub sealed_keys : touched point sealed_log ≡ written
  sealed_keys = ap (λ n. touched n sealed_log) (sym one_up) ∙ sym (open_after Prepare point log written gone s Resolve point)

  none_open : [] ≡ touched (point + 1) sealed_log
  none_open = sym (ap (with_written []) (by_point point (s.begun refl) lacks_own))
    where
      by_point : (n : ℕ) → 1 ≤ n → has_token n log ≡ false → cycle (n + 1) (log ++ Token Resolve n ∷ []) ≡ []
      by_point zero low none = absurd (omega arith)
      by_point (suc n) low none = cycle_next (log ++ Token Resolve (suc n) ∷ []) n
          ∙ ap (front (suc n + 1)) (behind_past (suc n) log (Token Resolve (suc n) ∷ []) none ∙ own_end (suc n))
        where
          own_end : (m : ℕ) → log_after_point m (Token Resolve m ∷ []) ≡ []
          own_end m = let is : eqb m m ≡ true = grind (arith, nat_tests) in rw is refl

  -- all of them are left at its token
  pub sealed_left : left_of point sealed_log [] ≡ touched point sealed_log
  sealed_left = ap (λ b. if b then without (touched point sealed_log) [] else []) has_own ∙ without_none (touched point sealed_log)

  -- the point's token
  pub stands_seal : TokensStand Resolve point sealed_log [] []
  stands_seal = record {
    has = has_at;
    in_order = order_at;
    begun = λ e. s.begun refl;
    open_keys = none_open;
    all_keys = λ there. sealed_left;
    idle = λ e. cc;
  }

-- keys that may be taken are left only if the point has its token
some_left : (point : ℕ) (log : List Entry) (gone : List (List ℕ)) (key : List ℕ) (keys : List (List ℕ)) → left_of point log gone ≡ key ∷ keys → has_token point log ≡ true
some_left point log gone key keys = elim (has_token point log) as (λ b. (if b then without (touched point log) gone else []) ≡ key ∷ keys → b ≡ true) [ true ↦ λ is. refl | false ↦ λ is. cc ]

module _ (phase : Phase) (point : ℕ) (log : List Entry) (written gone : List (List ℕ)) (s : TokensStand phase point log written gone) (key : List ℕ) (keys : List (List ℕ)) (is : left_of point log gone ≡ key ∷ keys) where
  all_taken : (gone ++ key ∷ []) ++ keys ≡ touched point log
  all_taken = append_assoc gone (key ∷ []) keys ∙ ap (λ left. gone ++ left) (sym is) ∙ s.all_keys (some_left point log gone key keys is)

  -- after a Take of the first key left, the others are left
  pub left_after_take : left_of point log (gone ++ key ∷ []) ≡ keys
  left_after_take = ap (λ b. if b then without (touched point log) (gone ++ key ∷ []) else []) (some_left point log gone key keys is)
      ∙ ap (λ all. without all (gone ++ key ∷ [])) (sym all_taken)
      ∙ without_first (gone ++ key ∷ []) keys (subst (IsDistinct same_bytes) (sym all_taken) (touched_distinct point log))

  -- a Take
  pub stands_take : is_taking phase ≡ true → TokensStand phase point log written (gone ++ key ∷ [])
  stands_take holds = record {
    has = s.has;
    in_order = s.in_order;
    begun = s.begun;
    open_keys = s.open_keys;
    all_keys = λ there. ap (λ left. (gone ++ key ∷ []) ++ left) left_after_take ∙ all_taken;
    idle = λ e. absurd (false≢true (sym e ∙ holds));
  }
