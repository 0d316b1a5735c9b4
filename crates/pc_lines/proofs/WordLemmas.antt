-- Numerals digit by digit, and texts byte by byte.
use Rattle.std.proofs.Common.{◌≡◌, ℕ, ◌+◌, ◌*◌, ◌-◌, ◌^◌, ◌<◌, ◌≤◌, true, List, [], ◌∷◌, ◌++◌, length, get_or, take, drop, arith, append_assoc, add-one, length-drop, zero, suc, refl, sym, ap, ◌∙◌}
use Rattle.std.specs.Prelude.{Option, Some, None, ◌==◌, ◌&&◌, Bool, false, if◌then◌else◌}
use Rattle.std.specs.Str.{bytes_eq}
use Rattle.std.specs.Option.{option_map}
use Rattle.std.specs.List.{list_all}
use Rattle.std.specs.Char.{digit_value}
use Rattle.std.proofs.lemmas.Bool.Decides.{nat_tests}
use Rattle.std.proofs.Math.Nat.{pow-le-pow_right, pow-suc}
use Rattle.std.proofs.lemmas.List.{take_rest, drop-drop}
use Rattle.pc_lines.specs.Words.{is_digit, is_plain, byte_of_hex, hex_value, escaped, with_byte, with_plain, with_escape, unescaped, word_text}

-- a digit of a numeral is one of 0 to 9
pub digit_at : (ds : List ℕ) (i : ℕ) → list_all is_digit ds ≡ true → i < length ds → (47 < get_or ds i 0) × (get_or ds i 0 < 58)
digit_at [] i h lt = absurd (omega arith)
digit_at (d ∷ ds) zero h lt = (grind (arith, nat_tests), grind (arith, nat_tests))
digit_at (d ∷ ds) (suc i) h lt = digit_at ds i (grind (arith, nat_tests)) (omega arith)

-- the value of a digit
pub digit_worth : (d : ℕ) → 47 < d → d < 58 → digit_value d ≡ d - 48
digit_worth d low high = grind (arith, nat_tests)

-- fewer than nineteen digits so far
pub room : (i : ℕ) → i < 19 → 10 ^ i ≤ 1000000000000000000
room i h = pow-le-pow_right {n = 10} (omega arith) {i = i} {j = 18} (omega arith)

one_byte : (text : List ℕ) (b : ℕ) (rest whole : Option (List ℕ)) → option_map (λ r. text ++ r) (with_byte b rest) ≡ whole
    → option_map (λ r. (text ++ b ∷ []) ++ r) rest ≡ whole
one_byte text b None whole h = h
one_byte text b (Some r) whole h = rw append_assoc h

-- the bound of one digit more
pub one_digit_more : (i value d : ℕ) → value < 10 ^ i → d < 10 → value * 10 + d < 10 ^ (i + 1)
one_digit_more i value d small h =
    let e : 10 ^ (i + 1) ≡ 10 ^ i * 10 = rw add-one (pow-suc 10 i) in
    omega arith

-- one more byte of a text, which takes some bytes of its word
pub one_more : (text pushed word : List ℕ) (at n b : ℕ) → at ≤ length word → pushed ≡ text ++ b ∷ []
    → (0 < n) × (n ≤ length (take (length word - at) (drop at word))) × (unescaped (take (length word - at) (drop at word)) ≡ with_byte b (unescaped (drop n (take (length word - at) (drop at word)))))
    → option_map (λ rest. text ++ rest) (unescaped (drop at word)) ≡ unescaped word
    → (at + n ≤ length word) × (option_map (λ rest. pushed ++ rest) (unescaped (drop (at + n) word)) ≡ unescaped word)
one_more text pushed word at n b within is_pushed first whole =
    let f = rw take_rest at first in (
      omega (arith, f.1, length-drop at word),
      rw is_pushed (one_byte text b (unescaped (drop (at + n) word)) (unescaped word)
          (rw (f.2, drop-drop) at whole)),
    )

both : (a b : Bool) → (a && b) ≡ true → (a ≡ true) × (b ≡ true)
both true b h = (refl, h)
both false b h = absurd (grind arith)

plain_in_front : (b : ℕ) (word : List ℕ) → is_plain b ≡ true → unescaped word ≡ Some word → with_plain b (unescaped word) ≡ Some (b ∷ word)
plain_in_front b word h e = ap (λ x. if x then with_byte b (unescaped word) else None) h ∙ ap (with_byte b) e

no_escape : (b x high low : ℕ) → is_plain b ≡ true → escaped b x high low ≡ None
no_escape b x high low h =
    let other : (b == 92) ≡ false = grind (arith, nat_tests) in
    ap (λ y. if y && (x == 120) then byte_of_hex (hex_value high) (hex_value low) else None) other

-- a word of plain bytes represents them
pub plain_word : (word : List ℕ) → list_all is_plain word ≡ true → unescaped word ≡ Some word
plain_word [] h = refl
plain_word (b ∷ []) h = plain_in_front b [] (both _ _ h).0 refl
plain_word (b ∷ x ∷ []) h = plain_in_front b (x ∷ []) (both _ _ h).0 (plain_word (x ∷ []) (both _ _ h).1)
plain_word (b ∷ x ∷ high ∷ []) h = plain_in_front b (x ∷ high ∷ []) (both _ _ h).0 (plain_word (x ∷ high ∷ []) (both _ _ h).1)
plain_word (b ∷ x ∷ high ∷ low ∷ word) h =
    ap (λ t. with_escape t (unescaped word) (with_plain b (unescaped (x ∷ high ∷ low ∷ word)))) (no_escape b x high low (both _ _ h).0)
    ∙ plain_in_front b (x ∷ high ∷ low ∷ word) (both _ _ h).0 (plain_word (x ∷ high ∷ low ∷ word) (both _ _ h).1)

-- and so does a key or value word that isn't a hyphen alone
pub plain_text : (word : List ℕ) → bytes_eq word (45 ∷ []) ≡ false → list_all is_plain word ≡ true → Some word ≡ word_text word
plain_text word other plain = sym (ap (λ x. if x then Some [] else unescaped word) other ∙ plain_word word plain)
