-- Bytes that are compared by place, and eight at a time as a number.
use Rattle.std.proofs.Common.{◌≡◌, ◌≢◌, ◌≤◌, ◌<◌, ℕ, zero, suc, ◌+◌, ◌-◌, ◌*◌, min, List, [], ◌∷◌, length, take, drop, get_or, refl, sym, ap, ◌∙◌, arith, drop-cons, length-drop, drop-drop, Ordering, Less, Equal, Greater}
use Rattle.std.specs.Ordering.{nat_cmp, ordering_then, MatchOrdering}
use Rattle.std.specs.Cmp.{ranks, nat_cmp_is}
use Rattle.std.specs.Cmp.Lexicographic.{slice_cmp}
use Rattle.std.specs.Slice.Scan.{big_endian}
use Rattle.pc_types.specs.Bytes.{IsBytes}
use Rattle.pc_types.proofs.ByteLaws.{IsBytes-drop, IsBytes-rest}

pub then_assoc : (p q r : Ordering) → ordering_then p (ordering_then q r) ≡ ordering_then (ordering_then p q) r
then_assoc Less q r = refl
then_assoc Equal q r = refl
then_assoc Greater q r = refl

-- a number is as great as itself
level : (x y : ℕ) → x ≡ y → nat_cmp x y ≡ Equal
level x y e = sym (nat_cmp_is x y Equal e)

-- numbers with one more digit of base 256 each
pub digit : (n m x y : ℕ) → x < 256 → y < 256 → nat_cmp (n * 256 + x) (m * 256 + y) ≡ ordering_then (nat_cmp n m) (nat_cmp x y)
digit n m x y p q = sym (nat_cmp_is _ _ _ (by (nat_cmp n m) (nat_cmp x y) (ranks n m) (ranks x y)))
  where
    by : (r s : Ordering) → MatchOrdering r (n < m) (n ≡ m) (m < n) → MatchOrdering s (x < y) (x ≡ y) (y < x)
        → MatchOrdering (ordering_then r s) (n * 256 + x < m * 256 + y) (n * 256 + x ≡ m * 256 + y) (m * 256 + y < n * 256 + x)
    by Less s h k = let t : n < m = h in omega arith
    by Greater s h k = let t : m < n = h in omega arith
    by Equal Less h k = let t : n ≡ m = h in let u : x < y = k in omega arith
    by Equal Equal h k = let t : n ≡ m = h in let u : x ≡ y = k in omega arith
    by Equal Greater h k = let t : n ≡ m = h in let u : y < x = k in omega arith

-- as many bytes of each, read as numbers, are ordered as they are
numbers : (k n m : ℕ) (us vs : List ℕ) → k ≤ length us → k ≤ length vs → IsBytes us → IsBytes vs
    → nat_cmp (big_endian n (take k us)) (big_endian m (take k vs)) ≡ ordering_then (nat_cmp n m) (slice_cmp nat_cmp (take k us) (take k vs))
numbers zero n m us vs p q g h = then_equal (nat_cmp n m)
  where
    then_equal : (r : Ordering) → r ≡ ordering_then r Equal
    then_equal Less = refl
    then_equal Equal = refl
    then_equal Greater = refl
numbers (suc k) n m [] vs p q g h = absurd (omega arith)
numbers (suc k) n m (u ∷ us) [] p q g h = absurd (omega arith)
numbers (suc k) n m (u ∷ us) (v ∷ vs) p q g h =
    numbers k (n * 256 + u) (m * 256 + v) us vs (omega arith) (omega arith) (IsBytes-rest u us g) (IsBytes-rest v vs h)
    ∙ ap (λ r. ordering_then r (slice_cmp nat_cmp (take k us) (take k vs))) (digit n m u v (g 0) (h 0))
    ∙ sym (then_assoc (nat_cmp n m) (nat_cmp u v) (slice_cmp nat_cmp (take k us) (take k vs)))

-- the first k bytes of each decide, or else those after them
split : (k : ℕ) (us vs : List ℕ) → k ≤ length us → k ≤ length vs → slice_cmp nat_cmp us vs ≡ ordering_then (slice_cmp nat_cmp (take k us) (take k vs)) (slice_cmp nat_cmp (drop k us) (drop k vs))
split zero us vs p q = refl
split (suc k) [] vs p q = absurd (omega arith)
split (suc k) (u ∷ us) [] p q = absurd (omega arith)
split (suc k) (u ∷ us) (v ∷ vs) p q =
    ap (ordering_then (nat_cmp u v)) (split k us vs (omega arith) (omega arith))
    ∙ then_assoc (nat_cmp u v) (slice_cmp nat_cmp (take k us) (take k vs)) (slice_cmp nat_cmp (drop k us) (drop k vs))

module _ (us vs : List ℕ) (i : ℕ) where
  -- after bytes that are the same
  pub past_byte : i < length us → i < length vs → get_or us i 0 ≡ get_or vs i 0 → slice_cmp nat_cmp (drop i us) (drop i vs) ≡ slice_cmp nat_cmp (drop (i + 1) us) (drop (i + 1) vs)
  past_byte p q e =
      (λ t. slice_cmp nat_cmp (drop-cons us i 0 p t) (drop-cons vs i 0 q t))
      ∙ ap (λ r. ordering_then r (slice_cmp nat_cmp (drop (suc i) us) (drop (suc i) vs))) (level _ _ e)
      ∙ (λ t. slice_cmp nat_cmp (drop (next t) us) (drop (next t) vs))
    where
      next : suc i ≡ i + 1
      next = omega arith

  -- bytes that differ
  pub by_byte : i < length us → i < length vs → get_or us i 0 ≢ get_or vs i 0 → nat_cmp (get_or us i 0) (get_or vs i 0) ≡ slice_cmp nat_cmp (drop i us) (drop i vs)
  by_byte p q e =
      decided (nat_cmp (get_or us i 0) (get_or vs i 0)) (ranks (get_or us i 0) (get_or vs i 0))
      ∙ sym (λ t. slice_cmp nat_cmp (drop-cons us i 0 p t) (drop-cons vs i 0 q t))
    where
      decided : (r : Ordering) → MatchOrdering r (get_or us i 0 < get_or vs i 0) (get_or us i 0 ≡ get_or vs i 0) (get_or vs i 0 < get_or us i 0)
          → r ≡ ordering_then r (slice_cmp nat_cmp (drop (suc i) us) (drop (suc i) vs))
      decided Less h = refl
      decided Equal h = absurd (e h)
      decided Greater h = refl

  -- one of them has no more bytes
  pub by_lengths : i ≡ min (length us) (length vs) → nat_cmp (length us) (length vs) ≡ slice_cmp nat_cmp (drop i us) (drop i vs)
  by_lengths e = ended (drop i us) (drop i vs) (length-drop i us) (length-drop i vs)
    where
      ended : (xs ys : List ℕ) → length xs ≡ length us - i → length ys ≡ length vs - i → nat_cmp (length us) (length vs) ≡ slice_cmp nat_cmp xs ys
      ended [] [] a b = level (length us) (length vs) (omega (arith, e, a, b))
      ended [] (y ∷ ys) a b = let t : length us < length vs = omega (arith, e, a, b) in sym (nat_cmp_is (length us) (length vs) Less t)
      ended (x ∷ xs) [] a b = let t : length vs < length us = omega (arith, e, a, b) in sym (nat_cmp_is (length us) (length vs) Greater t)
      ended (x ∷ xs) (y ∷ ys) a b = absurd (omega (arith, e, a, b))

-- that many bytes of each, read as a word
module _ (w : ℕ) (us vs : List ℕ) (g : IsBytes us) (h : IsBytes vs) (i x y : ℕ) (p : i + w ≤ length us) (q : i + w ≤ length vs)
    (a : x ≡ big_endian 0 (take w (drop i us))) (b : y ≡ big_endian 0 (take w (drop i vs))) where
  word : nat_cmp x y ≡ slice_cmp nat_cmp (take w (drop i us)) (take w (drop i vs))
  word = (λ t. nat_cmp (a t) (b t)) ∙ numbers w 0 0 (drop i us) (drop i vs) (omega (arith, length-drop i us)) (omega (arith, length-drop i vs)) (IsBytes-drop i us g) (IsBytes-drop i vs h)

  here : slice_cmp nat_cmp (drop i us) (drop i vs) ≡ ordering_then (nat_cmp x y) (slice_cmp nat_cmp (drop (i + w) us) (drop (i + w) vs))
  here =
      split w (drop i us) (drop i vs) (omega (arith, length-drop i us)) (omega (arith, length-drop i vs))
      ∙ (λ t. ordering_then (sym word t) (slice_cmp nat_cmp (drop-drop w i us t) (drop-drop w i vs t)))

  -- after words that are the same
  pub past_word : x ≡ y → slice_cmp nat_cmp (drop i us) (drop i vs) ≡ slice_cmp nat_cmp (drop (i + w) us) (drop (i + w) vs)
  past_word e = here ∙ ap (λ r. ordering_then r (slice_cmp nat_cmp (drop (i + w) us) (drop (i + w) vs))) (level x y e)

  -- words that differ
  pub by_word : x ≢ y → nat_cmp x y ≡ slice_cmp nat_cmp (drop i us) (drop i vs)
  by_word e = decided (nat_cmp x y) (ranks x y) ∙ sym here
    where
      decided : (r : Ordering) → MatchOrdering r (x < y) (x ≡ y) (y < x) → r ≡ ordering_then r (slice_cmp nat_cmp (drop (i + w) us) (drop (i + w) vs))
      decided Less l = refl
      decided Equal l = absurd (e l)
      decided Greater l = refl
