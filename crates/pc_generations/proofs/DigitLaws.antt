-- A number of seven digits is read back from the name that it gives.
use Rattle.std.proofs.Common.{◌≡◌, ◌≤◌, ◌+◌, ◌-◌, ◌*◌, ◌/◌, ◌%◌, ℕ, List, ◌∙◌, ap, arith}
use Rattle.std.specs.Prelude.{Bool, false, IsTrue}
use Rattle.pc_generations.specs.Names.{folder_name}
use Rattle.pc_generations.specs.Digits.{seven_digit_number}

-- a number by its digits, the last one first
digits_make : (n a b c d e f p q r s t u v : ℕ) → 10 * a + p ≡ n → 10 * b + q ≡ a → 10 * c + r ≡ b → 10 * d + s ≡ c → 10 * e + t ≡ d → 10 * f + u ≡ e → v ≡ f
    → (1000000 * (48 + v - 48) + 100000 * (48 + u - 48) + 10000 * (48 + t - 48)) + (1000 * (48 + s - 48) + 100 * (48 + r - 48) + 10 * (48 + q - 48) + (48 + p - 48)) ≡ n
digits_make n a b c d e f p q r s t u v h1 h2 h3 h4 h5 h6 h7 = omega (arith, h1, h2, h3, h4, h5, h6, h7)

-- the last digit, if what is before it is known
digit_at : (m n : ℕ) → m / 10 ≡ n → 10 * n + m % 10 ≡ m
digit_at m n e = omega (arith, e)

pub name_is_read : (n : ℕ) → n ≤ 9999999 → seven_digit_number (folder_name n) ≡ n
name_is_read n most =
    digits_make n (n / 10) (n / 100) (n / 1000) (n / 10000) (n / 100000) (n / 1000000) (n % 10) (n / 10 % 10) (n / 100 % 10) (n / 1000 % 10) (n / 10000 % 10) (n / 100000 % 10) (n / 1000000 % 10)
    (omega arith)
    (digit_at (n / 10) (n / 100) (omega arith))
    (digit_at (n / 100) (n / 1000) (omega arith))
    (digit_at (n / 1000) (n / 10000) (omega arith))
    (digit_at (n / 10000) (n / 100000) (omega arith))
    (digit_at (n / 100000) (n / 1000000) (omega arith))
    (omega (arith, most))

-- the number that is read of a name is that of each generation whose folder has it
pub read_is : (name : List ℕ) (number n : ℕ) → number ≡ seven_digit_number name → n ≤ 9999999 → name ≡ folder_name n → number ≡ n
read_is name number n is most e = is ∙ ap seven_digit_number e ∙ name_is_read n most

-- what is false isn't true
pub not_both : {b : Bool} → b ≡ false → IsTrue b → ⊥
not_both is_false is_true = cc
