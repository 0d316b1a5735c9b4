-- Keys whose heads differ are ordered as their heads are.
use Rattle.std.proofs.Common.{◌≡◌, ◌≢◌, ◌<◌, ℕ, zero, suc, ◌+◌, ◌*◌, ◌^◌, List, [], ◌∷◌, drop, refl, sym, ap, ◌∙◌, ◌⊎◌, inl, inr, arith, Ordering, Less, Equal, Greater}
use Rattle.std.specs.Ordering.{nat_cmp, ordering_then, MatchOrdering}
use Rattle.std.specs.Cmp.{ranks, nat_cmp_is}
use Rattle.std.specs.Cmp.Lexicographic.{slice_cmp}
use Rattle.pc_types.specs.Bytes.{IsBytes}
use Rattle.pc_types.specs.Heads.{base_256_value, headed, head}
use Rattle.pc_types.proofs.ByteLaws.{IsBytes-rest, IsBytes-drop}
use Rattle.pc_types.proofs.WordOrder.{digit, then_assoc}

-- if x decides, it is the order o
abbrev Decides : Ordering → Ordering → Type 0
Decides x o = x ≢ Equal → o ≡ x

-- what the numbers so far say, if nothing else is said
first_alone : (x p o : Ordering) → x ≡ p → Decides x (ordering_then p o)
first_alone x Less o is apart = sym is
first_alone x Equal o is apart = absurd (apart is)
first_alone x Greater o is apart = sym is

-- one more digit of a text that goes on beside one that has ended, and of which no more is said than that it may be the longer
longer : (x p q s : Ordering) → (q ≡ Equal) ⊎ (q ≡ s) → Decides x (ordering_then p q) → Decides x (ordering_then p s)
longer x Less q s far decides apart = decides apart
longer x Greater q s far decides apart = decides apart
longer x Equal q s (inl e) decides apart = absurd (apart (sym (decides apart) ∙ e))
longer x Equal q s (inr e) decides apart = sym e ∙ decides apart

-- a text beside the empty one
above_none : (us : List ℕ) → (slice_cmp nat_cmp us [] ≡ Equal) ⊎ (slice_cmp nat_cmp us [] ≡ Greater)
above_none [] = inl refl
above_none (u ∷ us) = inr refl

below_some : (vs : List ℕ) → (slice_cmp nat_cmp [] vs ≡ Equal) ⊎ (slice_cmp nat_cmp [] vs ≡ Less)
below_some [] = inl refl
below_some (v ∷ vs) = inr refl

-- a digit beside zero, and then such a text
above_zero : (u : ℕ) (o r : Ordering) → MatchOrdering r (u < 0) (u ≡ 0) (0 < u) → (o ≡ Equal) ⊎ (o ≡ Greater) → (ordering_then r o ≡ Equal) ⊎ (ordering_then r o ≡ Greater)
above_zero u o Less h far = let t : u < 0 = h in absurd (omega arith)
above_zero u o Equal h far = far
above_zero u o Greater h far = inr refl

below_digit : (v : ℕ) (o r : Ordering) → MatchOrdering r (0 < v) (0 ≡ v) (v < 0) → (o ≡ Equal) ⊎ (o ≡ Less) → (ordering_then r o ≡ Equal) ⊎ (ordering_then r o ≡ Less)
below_digit v o Less h far = inr refl
below_digit v o Equal h far = far
below_digit v o Greater h far = let t : v < 0 = h in absurd (omega arith)

-- the numbers with one more digit each, and what comes after
next : (n m u v : ℕ) (o : Ordering) → u < 256 → v < 256 → ordering_then (nat_cmp (n * 256 + u) (m * 256 + v)) o ≡ ordering_then (nat_cmp n m) (ordering_then (nat_cmp u v) o)
next n m u v o p q = ap (λ r. ordering_then r o) (digit n m u v p q) ∙ sym (then_assoc (nat_cmp n m) (nat_cmp u v) o)

on : (x o p : Ordering) → o ≡ p → Decides x o → Decides x p
on x o p is decides apart = sym is ∙ decides apart

spelled_decides : (k n m : ℕ) (us vs : List ℕ) → IsBytes us → IsBytes vs → Decides (nat_cmp (base_256_value k n us) (base_256_value k m vs)) (ordering_then (nat_cmp n m) (slice_cmp nat_cmp us vs))
spelled_decides zero n m us vs g h = first_alone (nat_cmp n m) (nat_cmp n m) (slice_cmp nat_cmp us vs) refl
spelled_decides (suc k) n m [] [] g h =
    on _ _ _ (next n m 0 0 Equal (omega arith) (omega arith)) (spelled_decides k (n * 256 + 0) (m * 256 + 0) [] [] g h)
spelled_decides (suc k) n m (u ∷ us) [] g h =
    longer _ (nat_cmp n m) _ Greater (above_zero u (slice_cmp nat_cmp us []) (nat_cmp u 0) (ranks u 0) (above_none us))
    (on _ _ _ (next n m u 0 (slice_cmp nat_cmp us []) (g 0) (omega arith)) (spelled_decides k (n * 256 + u) (m * 256 + 0) us [] (IsBytes-rest u us g) h))
spelled_decides (suc k) n m [] (v ∷ vs) g h =
    longer _ (nat_cmp n m) _ Less (below_digit v (slice_cmp nat_cmp [] vs) (nat_cmp 0 v) (ranks 0 v) (below_some vs))
    (on _ _ _ (next n m 0 v (slice_cmp nat_cmp [] vs) (omega arith) (h 0)) (spelled_decides k (n * 256 + 0) (m * 256 + v) [] vs g (IsBytes-rest v vs h)))
spelled_decides (suc k) n m (u ∷ us) (v ∷ vs) g h =
    on _ _ _ (next n m u v (slice_cmp nat_cmp us vs) (g 0) (h 0)) (spelled_decides k (n * 256 + u) (m * 256 + v) us vs (IsBytes-rest u us g) (IsBytes-rest v vs h))

-- the number before eight digits counts 2 ^ 64 times
carried : (n : ℕ) (bytes : List ℕ) → base_256_value 8 n bytes ≡ n * 2 ^ 64 + base_256_value 8 0 bytes
carried n [] = omega arith
carried n (a ∷ []) = omega arith
carried n (a ∷ b ∷ []) = omega arith
carried n (a ∷ b ∷ c ∷ []) = omega arith
carried n (a ∷ b ∷ c ∷ d ∷ []) = omega arith
carried n (a ∷ b ∷ c ∷ d ∷ e ∷ []) = omega arith
carried n (a ∷ b ∷ c ∷ d ∷ e ∷ f ∷ []) = omega arith
carried n (a ∷ b ∷ c ∷ d ∷ e ∷ f ∷ g ∷ []) = omega arith
carried n (a ∷ b ∷ c ∷ d ∷ e ∷ f ∷ g ∷ h ∷ rest) = omega arith

ten : (key : List ℕ) → base_256_value 10 0 key ≡ base_256_value 2 0 key * 2 ^ 64 + base_256_value 8 0 (drop 2 key)
ten [] = carried 0 []
ten (a ∷ []) = carried (base_256_value 2 0 (a ∷ [])) []
ten (a ∷ b ∷ own) = carried (base_256_value 2 0 (a ∷ b ∷ own)) own

-- eight digits have 64 bits
few : (bytes : List ℕ) → IsBytes bytes → base_256_value 8 0 bytes < 2 ^ 64
few [] fits = omega (arith)
few (a ∷ []) fits = omega (arith, fits 0)
few (a ∷ b ∷ []) fits = omega (arith, fits 0, fits 1)
few (a ∷ b ∷ c ∷ []) fits = omega (arith, fits 0, fits 1, fits 2)
few (a ∷ b ∷ c ∷ d ∷ []) fits = omega (arith, fits 0, fits 1, fits 2, fits 3)
few (a ∷ b ∷ c ∷ d ∷ e ∷ []) fits = omega (arith, fits 0, fits 1, fits 2, fits 3, fits 4)
few (a ∷ b ∷ c ∷ d ∷ e ∷ f ∷ []) fits = omega (arith, fits 0, fits 1, fits 2, fits 3, fits 4, fits 5)
few (a ∷ b ∷ c ∷ d ∷ e ∷ f ∷ g ∷ []) fits = omega (arith, fits 0, fits 1, fits 2, fits 3, fits 4, fits 5, fits 6)
few (a ∷ b ∷ c ∷ d ∷ e ∷ f ∷ g ∷ h ∷ rest) fits = omega (arith, fits 0, fits 1, fits 2, fits 3, fits 4, fits 5, fits 6, fits 7)

-- heads never turn the order of such numbers round
heads_rise : (s t x y : ℕ) → x < 2 ^ 64 → y < 2 ^ 64 → headed s x < headed t y → s * 2 ^ 64 + x < t * 2 ^ 64 + y
heads_rise zero zero x y p q lt = omega (arith, lt)
heads_rise zero (suc t) x y p q lt = omega (arith, p)
heads_rise (suc s) zero x y p q lt = absurd (omega (arith, lt, q))
heads_rise (suc s) (suc t) x y p q lt = omega (arith, lt, p, q)

-- if numbers that differ are never turned round, others are ordered as they are
as_heads : (a b n m : ℕ) → (a < b → n < m) → (b < a → m < n) → nat_cmp a b ≢ Equal → nat_cmp n m ≡ nat_cmp a b
as_heads a b n m up down apart = by (nat_cmp a b) refl (ranks a b)
  where
    by : (r : Ordering) → nat_cmp a b ≡ r → MatchOrdering r (a < b) (a ≡ b) (b < a) → nat_cmp n m ≡ r
    by Less is lt = sym (nat_cmp_is n m Less (up lt))
    by Equal is same = absurd (apart is)
    by Greater is lt = sym (nat_cmp_is n m Greater (down lt))

-- heads that differ decide
pub by_heads : (us vs : List ℕ) → IsBytes us → IsBytes vs → nat_cmp (head us) (head vs) ≢ Equal → slice_cmp nat_cmp us vs ≡ nat_cmp (head us) (head vs)
by_heads us vs g h apart =
    let low : base_256_value 8 0 (drop 2 us) < 2 ^ 64 = few (drop 2 us) (IsBytes-drop 2 us g) in
    let high : base_256_value 8 0 (drop 2 vs) < 2 ^ 64 = few (drop 2 vs) (IsBytes-drop 2 vs h) in
    let up : head us < head vs → base_256_value 10 0 us < base_256_value 10 0 vs = λ lt. rw (ten us, ten vs) (heads_rise (base_256_value 2 0 us) (base_256_value 2 0 vs) _ _ low high lt) in
    let down : head vs < head us → base_256_value 10 0 vs < base_256_value 10 0 us = λ lt. rw (ten us, ten vs) (heads_rise (base_256_value 2 0 vs) (base_256_value 2 0 us) _ _ high low lt) in
    let same : nat_cmp (base_256_value 10 0 us) (base_256_value 10 0 vs) ≡ nat_cmp (head us) (head vs) = as_heads (head us) (head vs) (base_256_value 10 0 us) (base_256_value 10 0 vs) up down apart in
    spelled_decides 10 0 0 us vs g h (λ level. apart (sym same ∙ level)) ∙ same
