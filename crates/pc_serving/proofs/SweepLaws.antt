-- What a sweep tells, and who is granted by the history.
use Rattle.std.proofs.Common.{◌≡◌, ◌+◌, ℕ, zero, suc, Bool, true, false, ◌&&◌, ◌||◌, not, nat_lt, List, [], ◌∷◌, ◌++◌, cond, eqb, refl, sym, ap, ◌∙◌, arith}
use Rattle.std.proofs.lemmas.Bool.Decides.{nat_tests}
use Rattle.pc_types.specs.declared.Step.{Step}
use Rattle.pc_model.specs.Calls.{session_of}
use Rattle.pc_model.specs.History.{History}
use Rattle.pc_model.specs.Replies.{Setting}
use Rattle.pc_engine.specs.Waiting.{waits_after}
use Rattle.pc_serving.specs.Serving.{awaits, granted_line, granted_to}
use Rattle.pc_serving.specs.Sweeps.{swept_line, swept_to}

-- a test that ends in the same way, if the own session is left out
line_by : (a b c d e : Bool) (text : List ℕ) → c ≡ d → (e ≡ false → a ≡ b) → cond (a && not c && not e) text [] ≡ cond (b && not d && not e) text []
line_by a b c d true text same others = left_out a c ∙ sym (left_out b d)
  where
    none : (x y : Bool) → (x && not y && false) ≡ false
    none true true = refl
    none true false = refl
    none false y = refl

    left_out : (x y : Bool) → cond (x && not y && false) text [] ≡ []
    left_out x y = ap (λ k. cond k text []) (none x y)
line_by a b c d false text same others = ap (λ k. cond (k && not c && true) text []) (others refl) ∙ ap (λ k. cond (b && not k && true) text []) same

-- a sweep of the waiting sessions reports which of them the step has granted
pub sweep_is_granting : (st : Setting) (step : Step) (h : History) (waits was : ℕ → Bool) (own : ℕ) → own ≡ session_of step.event → ((s : ℕ) → waits s ≡ waits_after st s (step ∷ h)) → ((s : ℕ) → eqb s own ≡ false → was s ≡ awaits st s h) → (n : ℕ)
    → swept_to waits was own n ≡ granted_to st step h n
sweep_is_granting st step h waits was own asks now before zero = refl
sweep_is_granting st step h waits was own asks now before (suc n) =
    ap (λ (t : List ℕ). t ++ swept_line waits was own (suc n)) (sweep_is_granting st step h waits was own asks now before n)
    ∙ ap (λ (t : List ℕ). granted_to st step h n ++ t)
    (line_by (was (suc n)) (awaits st (suc n) h) (waits (suc n)) (waits_after st (suc n) (step ∷ h)) (eqb (suc n) own) (granted_line (suc n)) (now (suc n)) (before (suc n))
    ∙ ap (λ k. cond (awaits st (suc n) h && not (waits_after st (suc n) (step ∷ h)) && not (eqb (suc n) k)) (granted_line (suc n)) []) asks)

-- the next one's line, if those before it were looked at
pub next_line : (waits looked now was : ℕ → Bool) (own place : ℕ) → ((s : ℕ) → looked s ≡ waits s) → ((s : ℕ) → now s ≡ (was s && (waits s || nat_lt place s))) → swept_line looked now own (place + 1) ≡ swept_line waits was own (place + 1)
next_line waits looked now was own place same left =
    ap (λ b. cond (b && not (looked (place + 1)) && not (eqb (place + 1) own)) (granted_line (place + 1)) []) (left (place + 1) ∙ later (was (place + 1)) (waits (place + 1)))
    ∙ ap (λ b. cond (was (place + 1) && not b && not (eqb (place + 1) own)) (granted_line (place + 1)) []) (same (place + 1))
  where
    next : nat_lt place (place + 1) ≡ true
    next = grind (arith, nat_tests)

    any : (w b : Bool) → b ≡ true → (w || b) ≡ true
    any true b e = refl
    any false b e = e

    later : (b w : Bool) → (b && (w || nat_lt place (place + 1))) ≡ b
    later true w = any w (nat_lt place (place + 1)) next
    later false w = refl

-- who is left after the next one
pub left_behind : (waits looked now was behind : ℕ → Bool) (place : ℕ) → ((s : ℕ) → looked s ≡ waits s) → ((s : ℕ) → now s ≡ (was s && (waits s || nat_lt place s))) → ((s : ℕ) → behind s ≡ (now s && (looked s || not (eqb s (place + 1)))))
    → (s : ℕ) → behind s ≡ (was s && (waits s || nat_lt (place + 1) s))
left_behind waits looked now was behind place same left then s =
    then s ∙ (ap (λ b. now s && (b || not (eqb s (place + 1)))) (same s) ∙ (ap (λ b. b && (waits s || not (eqb s (place + 1)))) (left s) ∙ by_test (was s) (waits s)))
  where
    order : (nat_lt place s && not (eqb s (place + 1))) ≡ nat_lt (place + 1) s
    order = grind (arith, nat_tests)

    by_test : (b w : Bool) → ((b && (w || nat_lt place s)) && (w || not (eqb s (place + 1)))) ≡ (b && (w || nat_lt (place + 1) s))
    by_test false w = refl
    by_test true true = refl
    by_test true false = order

-- a sweep of one session more
pub swept_next : (waits was : ℕ → Bool) (own n : ℕ) → swept_to waits was own (n + 1) ≡ swept_to waits was own n ++ swept_line waits was own (n + 1)
swept_next waits was own n =
    let one : n + 1 ≡ suc n = omega arith in
    ap (swept_to waits was own) one ∙ ap (λ k. swept_to waits was own n ++ swept_line waits was own k) (sym one)

-- a sweep of the same sessions
pub swept_same : (waits looked was there : ℕ → Bool) (own n : ℕ) → ((s : ℕ) → looked s ≡ waits s) → ((s : ℕ) → there s ≡ was s) → swept_to looked there own n ≡ swept_to waits was own n
swept_same waits looked was there own zero same before = refl
swept_same waits looked was there own (suc n) same before =
    ap (λ (t : List ℕ). t ++ swept_line looked there own (suc n)) (swept_same waits looked was there own n same before)
    ∙ ap (λ (t : List ℕ). swept_to waits was own n ++ t)
    (ap (λ b. cond (b && not (looked (suc n)) && not (eqb (suc n) own)) (granted_line (suc n)) []) (before (suc n)) ∙ ap (λ b. cond (was (suc n) && not b && not (eqb (suc n) own)) (granted_line (suc n)) []) (same (suc n)))
