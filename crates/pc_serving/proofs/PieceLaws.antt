-- The pieces of a line, as an input has them.
use Rattle.std.proofs.Common.{◌≡◌, ◌<◌, ◌≤◌, ◌+◌, ◌-◌, ◌==◌, ℕ, zero, suc, min, not, Bool, true, false, ◌||◌, nat_lt, List, [], ◌∷◌, ◌++◌, length, take, Option, Some, None, cond, eqb, eqb-true, refl, sym, ap, subst, ◌∙◌, arith}
use Rattle.std.proofs.lemmas.Bool.Decides.{nat_tests}
use Rattle.std.specs.Prelude.{IfSome}
use Rattle.std.specs.List.{position, position_or_len}
use Rattle.std.specs.Io.BufRead.{take_through, drop_through}
use Rattle.std.specs.Io.KnownBytes.{IsAtEnd}
use Rattle.pc_serving.specs.Inputs.{IsLinePiece, has_feed}

-- a text begins with the bytes before its first line feed, and that
pub feed_found : (bytes : List ℕ) → position_or_len (λ b. b == 10) bytes < length bytes → (take (position_or_len (λ b. b == 10) bytes + 1) bytes ≡ take (position_or_len (λ b. b == 10) bytes) bytes ++ 10 ∷ []) × (has_feed (take (position_or_len (λ b. b == 10) bytes) bytes) ≡ false)
feed_found [] within = absurd (omega (arith, within))
feed_found (x ∷ bytes) within = by_head (eqb x 10) refl within (feed_found bytes)
  where
    n : ℕ
    n = position_or_len (λ b. b == 10) bytes

    by_head : (b : Bool) → eqb x 10 ≡ b → cond (not b) (1 + n) 0 < length (x ∷ bytes) → (n < length bytes → (take (n + 1) bytes ≡ take n bytes ++ 10 ∷ []) × (has_feed (take n bytes) ≡ false))
        → (take (cond (not b) (1 + n) 0 + 1) (x ∷ bytes) ≡ take (cond (not b) (1 + n) 0) (x ∷ bytes) ++ 10 ∷ []) × (has_feed (take (cond (not b) (1 + n) 0) (x ∷ bytes)) ≡ false)
    by_head true e within behind = (ap (λ y. y ∷ []) (eqb-true x 10 e), refl)
    by_head false e within behind =
        let (taken, none) = behind (omega (arith, within)) in
        let one : 1 + n + 1 ≡ suc (n + 1) = omega arith in
        let same : 1 + n ≡ suc n = omega arith in (
          ap (λ k. take k (x ∷ bytes)) one ∙ ap (λ (t : List ℕ). x ∷ t) taken ∙ sym (ap (λ k. take k (x ∷ bytes) ++ 10 ∷ []) same),
          ap (λ k. has_feed (take k (x ∷ bytes))) same ∙ ap (λ b. b || has_feed (take n bytes)) e ∙ none,
        )

-- or it has none
pub feed_missed : (bytes : List ℕ) → nat_lt (position_or_len (λ b. b == 10) bytes) (length bytes) ≡ false → has_feed bytes ≡ false
feed_missed [] none = refl
feed_missed (x ∷ bytes) none = by_head (eqb x 10) refl none (feed_missed bytes)
  where
    n : ℕ
    n = position_or_len (λ b. b == 10) bytes

    by_head : (b : Bool) → eqb x 10 ≡ b → nat_lt (cond (not b) (1 + n) 0) (length (x ∷ bytes)) ≡ false → (nat_lt n (length bytes) ≡ false → has_feed bytes ≡ false) → (b || has_feed bytes) ≡ false
    by_head true e none behind = grind (arith, nat_tests)
    by_head false e none behind = behind (grind (arith, nat_tests))

-- a front without a line feed, and more such bytes
pub no_feed_more : (front bytes : List ℕ) → has_feed front ≡ false → has_feed bytes ≡ false → has_feed (front ++ bytes) ≡ false
no_feed_more [] bytes none more = more
no_feed_more (x ∷ front) bytes none more = by_head (eqb x 10) none (no_feed_more front bytes)
  where
    by_head : (b : Bool) → (b || has_feed front) ≡ false → (has_feed front ≡ false → has_feed bytes ≡ false → has_feed (front ++ bytes) ≡ false) → (b || has_feed (front ++ bytes)) ≡ false
    by_head true none behind = none
    by_head false none behind = behind none more

-- the text up to its first line feed, and the rest
pub through_feed : (front rest : List ℕ) → has_feed front ≡ false → (take_through 10 (front ++ 10 ∷ rest) ≡ front ++ 10 ∷ []) × (drop_through 10 (front ++ 10 ∷ rest) ≡ rest) × (has_feed (front ++ 10 ∷ rest) ≡ true)
through_feed [] rest none = (refl, refl, refl)
through_feed (x ∷ front) rest none = by_head (eqb x 10) none (through_feed front rest)
  where
    text : List ℕ
    text = front ++ 10 ∷ rest

    by_head : (b : Bool) → (b || has_feed front) ≡ false → (has_feed front ≡ false → (take_through 10 text ≡ front ++ 10 ∷ []) × (drop_through 10 text ≡ rest) × (has_feed text ≡ true))
        → (cond b (x ∷ []) (x ∷ take_through 10 text) ≡ x ∷ front ++ 10 ∷ []) × (cond b text (drop_through 10 text) ≡ rest) × ((b || has_feed text) ≡ true)
    by_head true none behind = cc
    by_head false none behind =
        let (taken, dropped, some) = behind none in
        (ap (λ (t : List ℕ). x ∷ t) taken, dropped, some)

-- the first bytes of the first bytes of a text, and more, are those of both
pub take_again : (k : ℕ) (front more : List ℕ) → take k (take k front ++ more) ≡ take k (front ++ more)
take_again zero front more = refl
take_again (suc k) [] more = refl
take_again (suc k) (x ∷ front) more = ap (λ (t : List ℕ). x ∷ t) (take_again k front more)

-- the first bytes of a text are no more
pub take_within : (k : ℕ) (text : List ℕ) → length (take k text) ≤ k
take_within zero text = omega arith
take_within (suc k) [] = omega arith
take_within (suc k) (x ∷ text) = omega (arith, take_within k text)

-- bytes behind others, as far as there is room for them
pub take_room : (k : ℕ) (front more : List ℕ) → length front ≤ k → front ++ take (min (length more) (k - length front)) more ≡ take k (front ++ more)
take_room k [] more within = take_least k more
  where
    take_none : (k : ℕ) → take {A = ℕ} k [] ≡ []
    take_none zero = refl
    take_none (suc k) = refl

    take_least : (k : ℕ) (bytes : List ℕ) → take (min (length bytes) (k - 0)) bytes ≡ take k bytes
    take_least zero bytes = ap (λ n. take n bytes) (let none : min (length bytes) (0 - 0) ≡ 0 = omega arith in none)
    take_least (suc k) [] = take_none (min (length {A = ℕ} []) (suc k - 0))
    take_least (suc k) (x ∷ bytes) =
        let less : min (length (x ∷ bytes)) (suc k - 0) ≡ suc (min (length bytes) (k - 0)) = omega arith in
        ap (λ n. take n (x ∷ bytes)) less ∙ ap (λ (t : List ℕ). x ∷ t) (take_least k bytes)
take_room zero (x ∷ front) more within = absurd (omega (arith, within))
take_room (suc k) (x ∷ front) more within =
    let less : min (length more) (suc k - length (x ∷ front)) ≡ min (length more) (k - length front) = omega arith in
    ap (λ n. x ∷ front ++ take n more) less ∙ ap (λ (t : List ℕ). x ∷ t) (take_room k front more (omega (arith, within)))

-- what was read is a piece
pub is_piece : (bytes : List ℕ) (left : Option (List ℕ)) (at : ℕ) → position (λ b. b == 10) bytes ≡ Some at → IsLinePiece (Some true) (take (at + 1) bytes) left
is_piece bytes left at found = by (nat_lt n (length bytes)) refl found
  where
    n : ℕ
    n = position_or_len (λ b. b == 10) bytes

    by : (b : Bool) → nat_lt n (length bytes) ≡ b → cond b (Some n) None ≡ Some at → IsLinePiece (Some true) (take (at + 1) bytes) left
    by false e found = cc
    by true e found =
        let is : n ≡ at = cc in
        let within : n < length bytes = grind (arith, nat_tests) in
        let (taken, none) = feed_found bytes within in
        subst (λ k. IsLinePiece (Some true) (take (k + 1) bytes) left) is (take n bytes, taken, none)

pub is_no_end : (bytes : List ℕ) → position (λ b. b == 10) bytes ≡ None → has_feed bytes ≡ false
is_no_end bytes missed = by (nat_lt n (length bytes)) refl missed
  where
    n : ℕ
    n = position_or_len (λ b. b == 10) bytes

    by : (b : Bool) → nat_lt n (length bytes) ≡ b → cond b (Some n) None ≡ None → has_feed bytes ≡ false
    by false e missed = feed_missed bytes e
    by true e missed = cc

-- what shows no bytes is at its end
pub at_end : (input : Option (List ℕ)) (n : ℕ) → IfSome input (λ text. n ≡ 0 → text ≡ []) → n ≡ 0 → IsAtEnd input
at_end None n end none = tt
at_end (Some text) n end none = end none
