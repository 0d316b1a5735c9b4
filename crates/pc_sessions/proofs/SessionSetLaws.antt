-- Sessions as bits of a number.
use Rattle.std.proofs.Common.{◌≡◌, ◌≢◌, ℕ, zero, suc, ◌+◌, ◌-◌, ◌*◌, ◌^◌, ◌<◌, Bool, true, false, ◌&&◌, ◌||◌, ◌↔◌, not, cond, eqb, min, max, bit_and, bit_or, refl, sym, ap, ◌∙◌, arith}
use Rattle.std.specs.Int.{bit_at, bit_not}
use Rattle.std.specs.Int.Bits.{and_zero_r}
use Rattle.std.proofs.Common.{w64}
use Rattle.std.proofs.lemmas.Bool.Decides.{nat_tests}
use Rattle.std.proofs.lemmas.Nat.Bits.{bit_at_or, bit_at_and, bit_at-pow_same, bit_at-pow_other, bit_at-zero, bit_at-lt, bit_at_not, and_pow, same_from_bits_below}
use Rattle.pc_sessions.specs.SessionSets.{is_number, bit_of, has_session}

-- the session's bit, if another's is looked for
bit_here : (s t : ℕ) → is_number t ≡ true → bit_at (bit_of s) (t - 1) ≡ cond (is_number s && eqb t s) 1 0
bit_here s t numbered = by_known (is_number s) refl
  where
    by_same : is_number s ≡ true → (b : Bool) → eqb t s ≡ b → bit_at (2 ^ (s - 1)) (t - 1) ≡ cond b 1 0
    by_same known true same = ap (λ k. bit_at (2 ^ (s - 1)) (k - 1)) (let one : t ≡ s = grind (arith, nat_tests, same) in one) ∙ bit_at-pow_same (s - 1)
    by_same known false other = bit_at-pow_other (s - 1) (t - 1) (λ same. grind (arith, nat_tests, numbered, known, other, same))

    by_known : (b : Bool) → is_number s ≡ b → bit_at (cond b (2 ^ (s - 1)) 0) (t - 1) ≡ cond (b && eqb t s) 1 0
    by_known false e = bit_at-zero (t - 1)
    by_known true e = by_same e (eqb t s) refl

-- a number that no session has is not that of one that a session has
no_number : (s t : ℕ) → is_number t ≡ false → (is_number s && eqb t s) ≡ false
no_number s t none = by_same (eqb t s) refl
  where
    by_same : (b : Bool) → eqb t s ≡ b → (is_number s && b) ≡ false
    by_same true same = ap (λ b. b && true) (ap is_number (let one : s ≡ t = grind (arith, nat_tests, same) in one) ∙ none)
    by_same false other = elim (is_number s) as (λ b. (b && false) ≡ false) [ true ↦ refl | false ↦ refl ]

one_more : (n : ℕ) (b : Bool) → n < 2 → eqb (max n (cond b 1 0)) 1 ≡ (eqb n 1 || b)
one_more zero true lt = refl
one_more zero false lt = refl
one_more (suc zero) true lt = refl
one_more (suc zero) false lt = refl
one_more (suc (suc n)) b lt = absurd (omega (arith, lt))

one_less : (n : ℕ) (b : Bool) → n < 2 → eqb (min n (1 - cond b 1 0)) 1 ≡ (eqb n 1 && not b)
one_less zero true lt = refl
one_less zero false lt = refl
one_less (suc zero) true lt = refl
one_less (suc zero) false lt = refl
one_less (suc (suc n)) b lt = absurd (omega (arith, lt))

-- the session is added
pub added : (bits was b s t : ℕ) → bits ≡ was → b ≡ bit_of s → has_session (bit_or bits b) t ≡ (has_session was t || (is_number s && eqb t s))
added bits was b s t before is = ap (λ m. has_session (bit_or bits m) t) is ∙ by_known (is_number t) refl ∙ ap (λ n. has_session n t || (is_number s && eqb t s)) before
  where
    by_known : (k : Bool) → is_number t ≡ k → (k && eqb (bit_at (bit_or bits (bit_of s)) (t - 1)) 1) ≡ ((k && eqb (bit_at bits (t - 1)) 1) || (is_number s && eqb t s))
    by_known false e = sym (no_number s t e)
    by_known true e = ap (λ n. eqb n 1) (bit_at_or bits (bit_of s) (t - 1) ∙ ap (max (bit_at bits (t - 1))) (bit_here s t e)) ∙ one_more (bit_at bits (t - 1)) (is_number s && eqb t s) (bit_at-lt bits (t - 1))

-- the session is taken away
pub removed : (bits was b s t : ℕ) → bits ≡ was → b < 2 ^ 64 → b ≡ bit_of s → has_session (bit_and bits (bit_not w64 b)) t ≡ (has_session was t && not (eqb t s))
removed bits was b s t before lt is = by_known (is_number t) refl ∙ ap (λ n. has_session n t && not (eqb t s)) before
  where
    own : is_number t ≡ true → (is_number s && eqb t s) ≡ eqb t s
    own e = by_same (eqb t s) refl
      where
        by_same : (b : Bool) → eqb t s ≡ b → (is_number s && b) ≡ b
        by_same true same = ap (λ b. b && true) (ap is_number (let one : s ≡ t = grind (arith, nat_tests, same) in one) ∙ e)
        by_same false other = elim (is_number s) as (λ b. (b && false) ≡ false) [ true ↦ refl | false ↦ refl ]

    turned : is_number t ≡ true → bit_at (bit_not w64 b) (t - 1) ≡ 1 - cond (eqb t s) 1 0
    turned e = bit_at_not w64 b (t - 1) lt (let within : t - 1 < 64 = grind (arith, nat_tests, e) in within) ∙ ap (λ n. 1 - n) (ap (λ m. bit_at m (t - 1)) is ∙ bit_here s t e) ∙ ap (λ c. 1 - cond c 1 0) (own e)

    by_known : (k : Bool) → is_number t ≡ k → (k && eqb (bit_at (bit_and bits (bit_not w64 b)) (t - 1)) 1) ≡ ((k && eqb (bit_at bits (t - 1)) 1) && not (eqb t s))
    by_known false e = refl
    by_known true e = ap (λ n. eqb n 1) (bit_at_and bits (bit_not w64 b) (t - 1) ∙ ap (min (bit_at bits (t - 1))) (turned e)) ∙ one_less (bit_at bits (t - 1)) (eqb t s) (bit_at-lt bits (t - 1))

-- the session is looked for
pub looked_for : (bits was b s : ℕ) → bits ≡ was → b ≡ bit_of s → not (eqb (bit_and bits b) 0) ≡ has_session was s
looked_for bits was b s before is = ap (λ m. not (eqb (bit_and bits m) 0)) is ∙ by_known (is_number s) refl ∙ ap (λ n. has_session n s) before
  where
    by_bit : (n : ℕ) → n < 2 → (p : ℕ) → p ≢ 0 → not (eqb (n * p) 0) ≡ eqb n 1
    by_bit zero lt p some = ap (λ n. not (eqb n 0)) (let none : 0 * p ≡ 0 = omega arith in none)
    by_bit (suc zero) lt p some = grind (arith, nat_tests, some)
    by_bit (suc (suc n)) lt p some = absurd (omega (arith, lt))

    some_bit : (k : ℕ) → 2 ^ k ≢ 0
    some_bit k none = let one = bit_at-pow_same k in let no = ap (λ n. bit_at n k) none ∙ bit_at-zero k in omega (arith, one, no)

    by_known : (k : Bool) → is_number s ≡ k → not (eqb (bit_and bits (cond k (2 ^ (s - 1)) 0)) 0) ≡ (k && eqb (bit_at bits (s - 1)) 1)
    by_known false e = ap (λ n. not (eqb n 0)) (and_zero_r bits)
    by_known true e = ap (λ n. not (eqb n 0)) (and_pow bits (s - 1)) ∙ by_bit (bit_at bits (s - 1)) (bit_at-lt bits (s - 1)) (2 ^ (s - 1)) (some_bit (s - 1))

-- no bit is set if no session is there
pub nobody : (bits was : ℕ) → bits ≡ was → bits < 2 ^ 64 → (eqb bits 0 ≡ true) ↔ ((s : ℕ) → has_session was s ≡ false)
nobody bits was before lt = (λ e s. ap (λ n. has_session n s) (sym before) ∙ empty_then e s, λ none. empty_by (λ s. ap (λ n. has_session n s) before ∙ none s))
  where
    empty_then : eqb bits 0 ≡ true → (s : ℕ) → has_session bits s ≡ false
    empty_then e s = ap (λ n. has_session n s) (let none : bits ≡ 0 = grind (arith, nat_tests, e) in none) ∙ (ap (λ n. is_number s && eqb n 1) (bit_at-zero (s - 1)) ∙ elim (is_number s) as (λ b. (b && false) ≡ false) [ true ↦ refl | false ↦ refl ])

    unset : (n : ℕ) → n < 2 → eqb n 1 ≡ false → n ≡ 0
    unset n below e = grind (arith, nat_tests, below, e)

    at_place : ((s : ℕ) → has_session bits s ≡ false) → (i : ℕ) → i < 64 → bit_at bits i ≡ 0
    at_place none i within =
        let known : is_number (i + 1) ≡ true = grind (arith, nat_tests, within) in
        let place : i ≡ i + 1 - 1 = omega arith in
        unset (bit_at bits i) (bit_at-lt bits i) (ap (λ k. eqb (bit_at bits k) 1) place ∙ (ap (λ b. b && eqb (bit_at bits (i + 1 - 1)) 1) (sym known) ∙ none (i + 1)))

    empty_by : ((s : ℕ) → has_session bits s ≡ false) → eqb bits 0 ≡ true
    empty_by none =
        let zero_is : bits ≡ 0 = same_from_bits_below 64 bits 0 lt (omega arith) (λ i within. at_place none i within ∙ sym (bit_at-zero i)) in
        ap (λ n. eqb n 0) zero_is
