-- Keys and pairs of a space and own bytes.
use Rattle.std.proofs.Common.{◌≡◌, ◌≤◌, ◌<◌, ◌^◌, ℕ, ◌+◌, ◌*◌, ◌/◌, ◌%◌, List, [], ◌∷◌, length, refl, sym, ap, ◌∙◌, arith}
use Rattle.std.specs.Ordering.{nat_cmp, ordering_then}
use Rattle.std.specs.Cmp.Lexicographic.{slice_cmp}
use Rattle.std.specs.Int.{byte_at}
use Rattle.pc_types.specs.Bytes.{IsBytes}
use Rattle.pc_types.specs.Keys.{key_of, space_of, own_bytes, pair_cmp}
use Rattle.pc_types.proofs.WordOrder.{digit, then_assoc}

spelled : (s : ℕ) → s < 2 ^ 16 → byte_at 1 s * 256 + byte_at 0 s ≡ s
spelled s fits = omega (arith, fits)

low : (s : ℕ) → byte_at 0 s < 256
low s = omega arith

pub by_space : (s t : ℕ) (own other : List ℕ) → s < 2 ^ 16 → t < 2 ^ 16 → slice_cmp nat_cmp (key_of s own) (key_of t other) ≡ pair_cmp (s, own) (t, other)
by_space s t own other p q =
    then_assoc (nat_cmp (byte_at 1 s) (byte_at 1 t)) (nat_cmp (byte_at 0 s) (byte_at 0 t)) (slice_cmp nat_cmp own other)
    ∙ ap (λ o. ordering_then o (slice_cmp nat_cmp own other)) (sym (digit (byte_at 1 s) (byte_at 1 t) (byte_at 0 s) (byte_at 0 t) (low s) (low t)) ∙ ap (nat_cmp (byte_at 1 s * 256 + byte_at 0 s)) (spelled t q) ∙ ap (λ n. nat_cmp n t) (spelled s p))

pub space_again : (space : ℕ) (own : List ℕ) → space < 2 ^ 16 → space_of (key_of space own) ≡ space
space_again space own fits = spelled space fits

pub made_of_its_parts : (key : List ℕ) → IsBytes key → 2 ≤ length key → (space_of key < 2 ^ 16) × (key_of (space_of key) (own_bytes key) ≡ key)
made_of_its_parts [] fits long = absurd (omega (arith, long))
made_of_its_parts (a ∷ []) fits long = absurd (omega (arith, long))
made_of_its_parts (a ∷ b ∷ own) fits long =
    let high : a < 256 = fits 0 in
    let low_byte : b < 256 = fits 1 in
    let first : (a * 256 + b) / 256 % 256 ≡ a = omega (arith, high, low_byte) in
    let second : (a * 256 + b) % 256 ≡ b = omega (arith, low_byte) in
    (omega (arith, high, low_byte), rw (first, second) refl)
