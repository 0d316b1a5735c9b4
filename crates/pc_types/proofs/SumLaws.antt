-- What the code of a sum gives is what `added` says.
use Rattle.std.proofs.Common.{◌≡◌, ◌<◌, ℕ, length, arith, List, refl, sym, ap, ◌∙◌, Bool, true, false, Option, Some, None, is_some, SomeIff}
use Rattle.std.specs.Prelude.{ℤ, pos, ◌+ℤ◌, FitsSigned, ◌==◌, if◌then◌else◌}
use Rattle.std.specs.Int.{w64, cast_signed, from_be_bytes}
use Rattle.std.specs.Option.{option_and_then}
use Rattle.std.proofs.lemmas.Bool.Decides.{nat_tests}
use Rattle.pc_types.specs.Changes.{fits_i64, value_number, content_number, sum_of, added}
use Rattle.pc_types.proofs.NumberLaws.{fits_is, is_fit, none_is, from_zero}

-- an answer that is the sum if and only if it fits
pub sum_is : (a b : ℤ) (result : Option ℤ) → SomeIff result (FitsSigned w64 (a +ℤ b)) (a +ℤ b) → result ≡ sum_of a b
sum_is a b (Some x) is = ap Some is.1 ∙ sym (ap (λ t. if t then Some (a +ℤ b) else None) (is_fit (a +ℤ b) is.0))
sum_is a b None is = by_test (fits_i64 (a +ℤ b)) refl
  where
    by_test : (t : Bool) → fits_i64 (a +ℤ b) ≡ t → None ≡ (if t then Some (a +ℤ b) else None)
    by_test true e = absurd (is (fits_is (a +ℤ b) e))
    by_test false e = refl

-- eight bytes have a number
pub eight : (value : List ℕ) → length value ≡ 8 → content_number (Some value) ≡ Some (cast_signed w64 (from_be_bytes w64 value))
unfolding content_number value_number
eight value e = let test : (length value == 8) ≡ true = grind (arith, nat_tests) in ap (λ t. if t then Some (cast_signed w64 (from_be_bytes w64 value)) else None) test

-- and fewer or more have none
apart : (value : List ℕ) → (length value == 8) ≡ false → content_number (Some value) ≡ None
unfolding content_number
apart value e = ap (λ t. if t then Some (value_number value) else None) e

pub fewer : (value : List ℕ) → length value < 8 → content_number (Some value) ≡ None
fewer value few = apart value (grind (arith, nat_tests))

pub more : (value : List ℕ) → 8 < length value → content_number (Some value) ≡ None
more value many = apart value (grind (arith, nat_tests))

-- nothing with a number added to it is that number
pub zero_with : (d : ℤ) → FitsSigned w64 d → Some d ≡ added d None
zero_with d f = sym (ap (option_and_then (λ n. sum_of n d)) none_is ∙ by_sum (pos 0 +ℤ d) (from_zero d))
  where
    by_sum : (z : ℤ) → z ≡ d → (if fits_i64 z then Some z else None) ≡ Some d
    by_sum z e = ap (λ x. if fits_i64 x then Some x else None) e ∙ ap (λ t. if t then Some d else None) (is_fit d f)

-- a value has a number if it has eight bytes
pub has_number : (value : List ℕ) → is_some (content_number (Some value)) ≡ (length value == 8)
unfolding content_number
has_number value = by_test (length value == 8)
  where
    by_test : (t : Bool) → is_some (if t then Some (value_number value) else None) ≡ t
    by_test true = refl
    by_test false = refl
