-- The recovered point: the files reach it, and it is not below the base's.
use Rattle.std.proofs.Common.{◌≡◌, ℕ, zero, suc, ◌≤◌, ◌<◌, nat_le, ◌&&◌, not, Bool, true, false, cond, List, [], ◌∷◌, ◌++◌, length, drop, Some, None, refl, sym, ap, ◌∙◌, arith}
use Rattle.std.specs.Prelude.{find}
use Rattle.std.specs.List.{list_all}
use Rattle.std.proofs.lemmas.List.{length-append, drop_all}
use Rattle.std.proofs.lemmas.List.Folds.{list_all-append}
use Rattle.std.proofs.lemmas.Bool.Decides.{nat_tests}
use Rattle.pc_model.specs.Files.{File, numbers_to}
use Rattle.pc_recover.specs.Recovery.{is_covered, files_to, reaches, last_reached}

-- there are n numbers from 1 to n
pub count_to : (n : ℕ) → length (numbers_to n) ≡ n
count_to zero = refl
count_to (suc n) = length-append (numbers_to n) (suc n ∷ []) ∙ omega (arith, count_to n)

drop_last : {X : Type 0} (b : ℕ) (xs : List X) (x : X) → b ≤ length xs → drop b (xs ++ x ∷ []) ≡ drop b xs ++ x ∷ []
drop_last zero xs x le = refl
drop_last (suc b) [] x le = absurd (omega (arith, le))
drop_last (suc b) (y ∷ ys) x le = drop_last b ys x (omega (arith, le))

-- the numbers above b and up to one more
next_number : (b n : ℕ) → b ≤ n → drop b (numbers_to (suc n)) ≡ drop b (numbers_to n) ++ suc n ∷ []
next_number b n le = drop_last b (numbers_to n) (suc n) (omega (arith, le, count_to n))

none_left : (b n : ℕ) → n ≤ b → drop b (numbers_to n) ≡ []
none_left b n le = drop_all b (numbers_to n) (omega (arith, le, count_to n))

-- a test that holds at all numbers above b and up to n holds at each
pub holds_at : (test : ℕ → Bool) (b n p : ℕ) → list_all test (drop b (numbers_to n)) ≡ true → b < p → p ≤ n → test p ≡ true
holds_at test b zero p all low high = absurd (omega (arith, low, high))
holds_at test b (suc n) p all low high = by (nat_le p n) refl (λ before le. holds_at test b n p before low le)
  where
    two : (list_all test (drop b (numbers_to n)) && list_all test (suc n ∷ [])) ≡ true
    two = sym (list_all-append test (drop b (numbers_to n)) (suc n ∷ [])) ∙ sym (ap (list_all test) (next_number b n (omega (arith, low, high)))) ∙ all

    by : (t : Bool) → nat_le p n ≡ t → (list_all test (drop b (numbers_to n)) ≡ true → p ≤ n → test p ≡ true) → test p ≡ true
    by true le again = again (first (list_all test (drop b (numbers_to n))) (list_all test (suc n ∷ [])) two) (grind (arith, nat_tests))
      where
        first : (x y : Bool) → (x && y) ≡ true → x ≡ true
        first true y e = refl
        first false y e = e
    by false gt again =
        let last : p ≡ suc n = grind (arith, nat_tests) in
        ap test last ∙ second (list_all test (drop b (numbers_to n))) (test (suc n)) two
      where
        second : (x y : Bool) → (x && (y && true)) ≡ true → y ≡ true
        second true true e = refl
        second true false e = e
        second false y e = absurd cc

-- one that holds at each holds at all
pub holds_at_all : (test : ℕ → Bool) (b n : ℕ) → ((p : ℕ) → b < p → p ≤ n → test p ≡ true) → list_all test (drop b (numbers_to n)) ≡ true
holds_at_all test b zero each = ap (list_all test) (none_left b zero (omega arith))
holds_at_all test b (suc n) each = by (nat_le b n) refl (holds_at_all test b n (λ p low high. each p low (omega (arith, high))))
  where
    by : (t : Bool) → nat_le b n ≡ t → list_all test (drop b (numbers_to n)) ≡ true → list_all test (drop b (numbers_to (suc n))) ≡ true
    by true le before =
        let low : b ≤ n = grind (arith, nat_tests) in
        ap (list_all test) (next_number b n low) ∙ list_all-append test (drop b (numbers_to n)) (suc n ∷ [])
        ∙ ap (λ x. x && (test (suc n) && true)) before ∙ ap (λ x. x && true) (each (suc n) (omega (arith, low)) (omega arith))
    by false gt before = ap (list_all test) (none_left b (suc n) (grind (arith, nat_tests)))

-- nothing is found if the test fails everywhere
pub finds_none : (test : ℕ → Bool) (xs : List ℕ) → list_all (λ x. not (test x)) xs ≡ true → find test xs ≡ None
finds_none test [] all = refl
finds_none test (x ∷ xs) all = by (test x) refl all (λ others. finds_none test xs others)
  where
    by : (t : Bool) → test x ≡ t → (not t && list_all (λ y. not (test y)) xs) ≡ true → (list_all (λ y. not (test y)) xs ≡ true → find test xs ≡ None) → find test (x ∷ xs) ≡ None
    by true is h again = absurd cc
    by false is h again = ap (λ t. cond t (Some x) (find test xs)) is ∙ again h

module _ (b : ℕ) (files : List File) where
  -- the base's point is reached by no file at all, as is each below it
  reaches_base : (n : ℕ) → n ≤ b → reaches b files n ≡ true
  reaches_base n le = ap (list_all (is_covered (files_to n files))) (none_left b n le)

  -- the last point that is reached is reached
  pub last_is_reached : (k : ℕ) → reaches b files (last_reached b files k) ≡ true
  last_is_reached zero = reaches_base b (omega arith)
  last_is_reached (suc k) = by (reaches b files (suc k)) refl (last_is_reached k)
    where
      by : (t : Bool) → reaches b files (suc k) ≡ t → reaches b files (last_reached b files k) ≡ true → reaches b files (cond t (suc k) (last_reached b files k)) ≡ true
      by true is before = is
      by false is before = before

  -- and not below the base's
  pub last_from_base : (k : ℕ) → b ≤ k → b ≤ last_reached b files k
  last_from_base zero le = omega arith
  last_from_base (suc k) le = by (reaches b files (suc k)) refl (last_from_base k)
    where
      by : (t : Bool) → reaches b files (suc k) ≡ t → (b ≤ k → b ≤ last_reached b files k) → b ≤ cond t (suc k) (last_reached b files k)
      by true is before = le
      by false is before = before (below (nat_le b k) refl)
        where
          below : (t : Bool) → nat_le b k ≡ t → b ≤ k
          below true e = grind (arith, nat_tests)
          below false e = let top : suc k ≤ b = grind (arith, nat_tests) in absurd (no_both (sym is ∙ reaches_base (suc k) top))
            where
              no_both : false ≡ true → ⊥
              no_both x = cc
