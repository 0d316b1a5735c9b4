-- Numbers, the bytes that represent them, and their sums.
use Rattle.std.proofs.Common.{◌≡◌, ◌^◌, ◌<◌, refl, ap, ◌∙◌, Bool, true, false, Some, None, is_some, arith}
use Rattle.std.specs.Prelude.{ℤ, pos, negsuc, ◌+ℤ◌, FitsSigned, if◌then◌else◌}
use Rattle.std.specs.Int.{w64, cast_signed, cast_unsigned}
use Rattle.std.proofs.lemmas.Nat.{from_be_bytes-to_be_bytes_8}
use Rattle.std.proofs.lemmas.Int.{ints, to_z-of_z}
use Rattle.std.proofs.lemmas.Bool.Decides.{nat_tests}
use Rattle.pc_types.specs.Changes.{fits_i64, number_text, value_number, content_number, sum_of}

-- a number that passes the test fits
pub fits_is : (z : ℤ) → fits_i64 z ≡ true → FitsSigned w64 z
fits_is (pos n) e = record { sfits = grind (arith, nat_tests) }
fits_is (negsuc n) e = record { sfits = grind (arith, nat_tests) }

-- and passes it if it fits
pub is_fit : (z : ℤ) → FitsSigned w64 z → fits_i64 z ≡ true
is_fit (pos n) f = let small : n < 2 ^ 63 = f.sfits in grind (arith, nat_tests)
is_fit (negsuc n) f = let small : n < 2 ^ 63 = f.sfits in grind (arith, nat_tests)

-- its bits are those of 64
pub small : (z : ℤ) → FitsSigned w64 z → cast_unsigned w64 z < 2 ^ 64
small (pos n) f = let below : n < 2 ^ 63 = f.sfits in omega arith
small (negsuc n) f = let below : n < 2 ^ 63 = f.sfits in omega arith

-- a number is read of its own eight bytes
pub read_back : (z : ℤ) → FitsSigned w64 z → content_number (Some (number_text z)) ≡ Some z
unfolding content_number value_number number_text
read_back z f = ap Some (ap (cast_signed w64) (from_be_bytes-to_be_bytes_8 (cast_unsigned w64 z) (small z f)) ∙ to_z-of_z w64 z f)

-- nothing counts as 0
pub none_is : content_number None ≡ Some (pos 0)
unfolding content_number
none_is = refl

-- if the sum is there, it is the sum, and it fits
pub is_sum : (a b : ℤ) → is_some (sum_of a b) ≡ true → (sum_of a b ≡ Some (a +ℤ b)) × (fits_i64 (a +ℤ b) ≡ true)
is_sum a b some = by_test (fits_i64 (a +ℤ b)) refl some
  where
    by_test : (t : Bool) → fits_i64 (a +ℤ b) ≡ t → is_some (if t then Some (a +ℤ b) else None) ≡ true → ((if t then Some (a +ℤ b) else None) ≡ Some (a +ℤ b)) × (fits_i64 (a +ℤ b) ≡ true)
    by_test true is some = (refl, is)
    by_test false is some = cc

pub assoc : (a b c : ℤ) → (a +ℤ b) +ℤ c ≡ a +ℤ (b +ℤ c)
assoc a b c = omega (arith, ints)

pub from_zero : (a : ℤ) → pos 0 +ℤ a ≡ a
from_zero a = omega (arith, ints)
