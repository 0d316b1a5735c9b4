-- Printed keys and values are read back.
use Rattle.std.proofs.Common.{◌≡◌, ℕ, zero, suc, ◌+◌, ◌*◌, ◌/◌, ◌%◌, ◌<◌, ◌≤◌, ◌==◌, ◌&&◌, not, Bool, true, false, cond, nat_lt, List, [], ◌∷◌, ◌++◌, length, take, drop, Some, None, refl, ap, ◌∙◌, arith, append_assoc, length-append, get_or}
use Rattle.std.specs.Prelude.{if◌then◌else◌, decimal}
use Rattle.std.specs.Str.{bytes_eq}
use Rattle.std.specs.List.{flat_map, list_all, position, position_or_len}
use Rattle.std.specs.Char.{digit_char}
use Rattle.std.specs.Str.Parse.{AllDigits, digits_value}
use Rattle.std.proofs.lemmas.Bool.Decides.{nat_tests}
use Rattle.std.proofs.lemmas.Str.Parse.{digit_from_value}
use Rattle.std.proofs.lemmas.Fmt.{decimal_is_IsNumeral, first_decimal, length-decimal-le}
use Rattle.std.proofs.lemmas.List.Folds.{list_all-append}
use Rattle.pc_types.specs.Bytes.{IsBytes}
use Rattle.pc_types.specs.Keys.{key_of, space_of, own_bytes}
use Rattle.pc_lines.specs.Words.{escaped, byte_of_hex, hex_value, is_digit, is_numeral, is_plain, key_at_colon, key_of_own_word, key_in_space, key_text_of, parsed_number, space_in, space_within, word_text, unescaped, with_byte, with_escape, with_plain}
use Rattle.pc_texts.specs.Texts.{printed, printed_byte, printed_key, printed_space}

-- a byte that no word has but a word's: neither a space nor a line feed nor a carriage return
abbrev pub is_shown : ℕ → Bool
is_shown b = nat_lt 32 b && nat_lt b 127

-- what stands before a byte that passes, where none before it does
pub place_at : (p : ℕ → Bool) (word : List ℕ) (c : ℕ) (rest : List ℕ) → list_all (λ b. not (p b)) word ≡ true → p c ≡ true → position_or_len p (word ++ c ∷ rest) ≡ length word
place_at p [] c rest none passes = ap (λ x. cond (not x) (1 + position_or_len p rest) 0) passes
place_at p (b ∷ word) c rest none passes =
    let parts = both (not (p b)) (list_all (λ x. not (p x)) word) none in
    ap (λ x. cond x (1 + position_or_len p (word ++ c ∷ rest)) 0) parts.0 ∙ ap (λ n. 1 + n) (place_at p word c rest parts.1 passes) ∙ omega arith
  where
    both : (x y : Bool) → (x && y) ≡ true → (x ≡ true) × (y ≡ true)
    both true y h = (refl, h)
    both false y h = absurd (grind arith)

pub found_at : (p : ℕ → Bool) (word : List ℕ) (c : ℕ) (rest : List ℕ) → list_all (λ b. not (p b)) word ≡ true → p c ≡ true → position p (word ++ c ∷ rest) ≡ Some (length word)
found_at p word c rest none passes =
    let at = place_at p word c rest none passes in
    let within : nat_lt (length word) (length (word ++ c ∷ rest)) ≡ true = grind (arith, nat_tests, length-append) in
    ap (λ n. cond (nat_lt n (length (word ++ c ∷ rest))) (Some n) None) at ∙ ap (λ x. cond x (Some (length word)) None) within

pub taken : (word : List ℕ) (rest : List ℕ) → take (length word) (word ++ rest) ≡ word
taken [] rest = refl
taken (b ∷ word) rest = ap (λ (t : List ℕ). b ∷ t) (taken word rest)

pub dropped : (word : List ℕ) (c : ℕ) (rest : List ℕ) → drop (length word + 1) (word ++ c ∷ rest) ≡ rest
dropped [] c rest = refl
dropped (b ∷ word) c rest =
    let e : length (b ∷ word) + 1 ≡ suc (length word + 1) = omega arith in
    ap (λ n. drop n (b ∷ (word ++ c ∷ rest))) e ∙ dropped word c rest

pub and_parts : (x y : Bool) → (x && y) ≡ true → (x ≡ true) × (y ≡ true)
and_parts true y h = (refl, h)
and_parts false y h = absurd (grind arith)

-- a digit below 16 and its character
hex_again : (d : ℕ) → d < 16 → hex_value (digit_char d) ≡ Some d
hex_again d small = by (nat_lt d 10) refl
  where
    by : (x : Bool) → nat_lt d 10 ≡ x → hex_value (digit_char d) ≡ Some d
    by true e = grind (arith, nat_tests)
    by false e = grind (arith, nat_tests)

shown_digit : (d : ℕ) → d < 16 → is_shown (digit_char d) ≡ true
shown_digit d small = by (nat_lt d 10) refl
  where
    by : (x : Bool) → nat_lt d 10 ≡ x → is_shown (digit_char d) ≡ true
    by true e = grind (arith, nat_tests)
    by false e = grind (arith, nat_tests)

no_escape : (b x high low : ℕ) → is_plain b ≡ true → escaped b x high low ≡ None
no_escape b x high low h =
    let other : (b == 92) ≡ false = grind (arith, nat_tests) in
    ap (λ y. if y && (x == 120) then byte_of_hex (hex_value high) (hex_value low) else None) other

plain_alone : (b : ℕ) (word : List ℕ) → is_plain b ≡ true → with_plain b (unescaped word) ≡ with_byte b (unescaped word)
plain_alone b word h = ap (λ x. if x then with_byte b (unescaped word) else None) h

-- a plain byte stands for itself
plain_first : (b : ℕ) (word : List ℕ) → is_plain b ≡ true → unescaped (b ∷ word) ≡ with_byte b (unescaped word)
plain_first b [] h = plain_alone b [] h
plain_first b (x ∷ []) h = plain_alone b (x ∷ []) h
plain_first b (x ∷ high ∷ []) h = plain_alone b (x ∷ high ∷ []) h
plain_first b (x ∷ high ∷ low ∷ word) h =
    ap (λ t. with_escape t (unescaped word) (with_plain b (unescaped (x ∷ high ∷ low ∷ word)))) (no_escape b x high low h)
    ∙ plain_alone b (x ∷ high ∷ low ∷ word) h

-- and an escape for its byte
escape_first : (b : ℕ) (word : List ℕ) → b < 256 → unescaped (92 ∷ 120 ∷ digit_char (b / 16) ∷ digit_char (b % 16) ∷ word) ≡ with_byte b (unescaped word)
escape_first b word small =
    let high : hex_value (digit_char (b / 16)) ≡ Some (b / 16) = hex_again (b / 16) (omega arith) in
    let low : hex_value (digit_char (b % 16)) ≡ Some (b % 16) = hex_again (b % 16) (omega arith) in
    let whole : b / 16 * 16 + b % 16 ≡ b = omega arith in
    let is : escaped 92 120 (digit_char (b / 16)) (digit_char (b % 16)) ≡ Some b =
    ap (λ t. byte_of_hex t (hex_value (digit_char (b % 16)))) high ∙ ap (byte_of_hex (Some (b / 16))) low ∙ ap Some whole in
    ap (λ t. with_escape t (unescaped word) (with_plain 92 (unescaped (120 ∷ digit_char (b / 16) ∷ digit_char (b % 16) ∷ word)))) is

byte_first : (b : ℕ) (word : List ℕ) → b < 256 → unescaped (printed_byte b ++ word) ≡ with_byte b (unescaped word)
byte_first b word small = by (is_plain b) refl
  where
    by : (x : Bool) → is_plain b ≡ x → unescaped ((if x then b ∷ [] else 92 ∷ 120 ∷ digit_char (b / 16) ∷ digit_char (b % 16) ∷ []) ++ word) ≡ with_byte b (unescaped word)
    by true h = plain_first b word h
    by false h = escape_first b word small

-- the first byte of a text of bytes, and those behind it
pub first_small : (b : ℕ) (bytes : List ℕ) → IsBytes (b ∷ bytes) → b < 256
first_small b bytes fit = fit 0

pub rest_small : (b : ℕ) (bytes : List ℕ) → IsBytes (b ∷ bytes) → IsBytes bytes
rest_small b bytes fit = λ i. fit (suc i)

-- escaped bytes are those that they were
bytes_again : (bytes : List ℕ) → IsBytes bytes → unescaped (flat_map printed_byte bytes) ≡ Some bytes
bytes_again [] fit = refl
bytes_again (b ∷ bytes) fit = byte_first b (flat_map printed_byte bytes) (first_small b bytes fit) ∙ ap (with_byte b) (bytes_again bytes (rest_small b bytes fit))

-- bytes that are no hyphen alone aren't printed as one
first_of : List ℕ → ℕ
first_of [] = 0
first_of (b ∷ bytes) = b

no_hyphen : (b : ℕ) (bytes : List ℕ) → bytes_eq (b ∷ bytes) (45 ∷ []) ≡ false → bytes_eq (flat_map printed_byte (b ∷ bytes)) (45 ∷ []) ≡ false
no_hyphen b bytes other = by (is_plain b) refl bytes other
  where
    behind : (x : List ℕ) → bytes_eq (b ∷ x) (45 ∷ []) ≡ false → (y : List ℕ) → (x ≡ [] → y ≡ []) → (0 < length x → 0 < length y) → bytes_eq (b ∷ y) (45 ∷ []) ≡ false
    behind [] other y none some = ap (λ t. bytes_eq (b ∷ t) (45 ∷ [])) (none refl) ∙ other
    behind (c ∷ x) other [] none some = absurd (omega (arith, some (omega arith)))
    behind (c ∷ x) other (d ∷ y) none some = grind (arith, nat_tests)

    by : (x : Bool) → is_plain b ≡ x → (bytes : List ℕ) → bytes_eq (b ∷ bytes) (45 ∷ []) ≡ false
        → bytes_eq ((if x then b ∷ [] else 92 ∷ 120 ∷ digit_char (b / 16) ∷ digit_char (b % 16) ∷ []) ++ flat_map printed_byte bytes) (45 ∷ []) ≡ false
    by true h [] other = other
    by true h (c ∷ bytes) other = behind (c ∷ bytes) other (flat_map printed_byte (c ∷ bytes)) (λ e. absurd (grind arith)) (λ some. longer c (flat_map printed_byte bytes))
      where
        longer : (c : ℕ) (rest : List ℕ) → 0 < length (printed_byte c ++ rest)
        longer c rest = with_plain_byte (is_plain c) c rest
          where
            with_plain_byte : (x : Bool) (c : ℕ) (rest : List ℕ) → 0 < length ((if x then c ∷ [] else 92 ∷ 120 ∷ digit_char (c / 16) ∷ digit_char (c % 16) ∷ []) ++ rest)
            with_plain_byte true c rest = omega arith
            with_plain_byte false c rest = omega arith
    by false h bytes other = refl

-- a printed value is read back
pub value_again : (bytes : List ℕ) → IsBytes bytes → word_text (printed bytes) ≡ Some bytes
value_again [] fit = refl
value_again (b ∷ bytes) fit = by (bytes_eq (b ∷ bytes) (45 ∷ [])) refl
  where
    alone : (b : ℕ) (bytes : List ℕ) → bytes_eq (b ∷ bytes) (45 ∷ []) ≡ true → 45 ∷ [] ≡ b ∷ bytes
    alone b [] e = grind (arith, nat_tests)
    alone b (c ∷ bytes) e = absurd (grind (arith, nat_tests))

    by : (x : Bool) → bytes_eq (b ∷ bytes) (45 ∷ []) ≡ x → word_text (if x then 92 ∷ 120 ∷ 50 ∷ 100 ∷ [] else flat_map printed_byte (b ∷ bytes)) ≡ Some (b ∷ bytes)
    by true e = ap Some (alone b bytes e)
    by false e =
        ap (λ x. if x then Some [] else unescaped (flat_map printed_byte (b ∷ bytes))) (no_hyphen b bytes e)
        ∙ bytes_again (b ∷ bytes) fit

-- Bytes that are printed are shown.

and_true : (a b : Bool) → a ≡ true → b ≡ true → (a && b) ≡ true
and_true true b e f = f
and_true false b e f = absurd (grind arith)

shown_byte : (b : ℕ) → b < 256 → list_all is_shown (printed_byte b) ≡ true
shown_byte b small = by (is_plain b) refl
  where
    by : (x : Bool) → is_plain b ≡ x → list_all is_shown (if x then b ∷ [] else 92 ∷ 120 ∷ digit_char (b / 16) ∷ digit_char (b % 16) ∷ []) ≡ true
    by true e = let shown : is_shown b ≡ true = grind (arith, nat_tests) in and_true (is_shown b) true shown refl
    by false e =
        and_true (is_shown (digit_char (b / 16))) (is_shown (digit_char (b % 16)) && true) (shown_digit (b / 16) (omega arith))
        (and_true (is_shown (digit_char (b % 16))) true (shown_digit (b % 16) (omega arith)) refl)

shown_bytes : (bytes : List ℕ) → IsBytes bytes → list_all is_shown (flat_map printed_byte bytes) ≡ true
shown_bytes [] fit = refl
shown_bytes (b ∷ bytes) fit =
    list_all-append is_shown (printed_byte b) (flat_map printed_byte bytes)
    ∙ and_true (list_all is_shown (printed_byte b)) (list_all is_shown (flat_map printed_byte bytes)) (shown_byte b (first_small b bytes fit)) (shown_bytes bytes (rest_small b bytes fit))

pub shown_value : (bytes : List ℕ) → IsBytes bytes → list_all is_shown (printed bytes) ≡ true
shown_value [] fit = refl
shown_value (b ∷ bytes) fit = by (bytes_eq (b ∷ bytes) (45 ∷ []))
  where
    by : (x : Bool) → list_all is_shown (if x then 92 ∷ 120 ∷ 50 ∷ 100 ∷ [] else flat_map printed_byte (b ∷ bytes)) ≡ true
    by true = refl
    by false = shown_bytes (b ∷ bytes) fit

-- The digits of a space.

digits_are : (ds : List ℕ) → AllDigits 10 ds → list_all is_digit ds ≡ true
digits_are [] all = refl
digits_are (d ∷ ds) all =
    let bounds = digit_from_value d all.0 in
    let is : is_digit d ≡ true = grind (arith, nat_tests, bounds) in
    and_true (is_digit d) (list_all is_digit ds) is (digits_are ds all.1)

not_colon : (ds : List ℕ) → list_all is_digit ds ≡ true → list_all (λ b. not (b == 58)) ds ≡ true
not_colon [] all = refl
not_colon (d ∷ ds) all =
    let parts = and_parts (is_digit d) (list_all is_digit ds) all in
    let other : not (d == 58) ≡ true = let first = parts.0 in grind (arith, nat_tests) in
    and_true (not (d == 58)) (list_all (λ b. not (b == 58)) ds) other (not_colon ds parts.1)

digits_shown : (ds : List ℕ) → list_all is_digit ds ≡ true → list_all is_shown ds ≡ true
digits_shown [] all = refl
digits_shown (d ∷ ds) all =
    let parts = and_parts (is_digit d) (list_all is_digit ds) all in
    let shown : is_shown d ≡ true = let first = parts.0 in grind (arith, nat_tests) in
    and_true (is_shown d) (list_all is_shown ds) shown (digits_shown ds parts.1)

number_again : (n : ℕ) → n < 65536 → parsed_number (decimal n) ≡ Some n
number_again n small =
    let numeral = decimal_is_IsNumeral n (omega arith) in
    let some : nat_lt 0 (length (decimal n)) ≡ true = let long = numeral.0.0 in grind (arith, nat_tests) in
    let few : nat_lt (length (decimal n)) 10 ≡ true = let short = length-decimal-le 5 n (omega arith) (omega arith) (omega arith) in grind (arith, nat_tests) in
    let is : is_numeral (decimal n) ≡ true =
    and_true (nat_lt 0 (length (decimal n)) && nat_lt (length (decimal n)) 10) (list_all is_digit (decimal n))
    (and_true (nat_lt 0 (length (decimal n))) (nat_lt (length (decimal n)) 10) some few) (digits_are (decimal n) numeral.0.1) in
    ap (λ x. if x then Some (digits_value 10 (decimal n)) else None) is ∙ ap Some numeral.1

space_of_digits : (ds : List ℕ) (n : ℕ) → 0 < length ds → 48 < get_or ds 0 0 → parsed_number ds ≡ Some n → n < 65536 → space_in ds ≡ Some n
space_of_digits [] n some first number small = absurd (omega arith)
space_of_digits (d ∷ ds) n some first number small =
    let other : (d == 48) ≡ false = grind (arith, nat_tests) in
    let within : nat_lt n 65536 ≡ true = grind (arith, nat_tests) in
    ap (λ x. if x then None else space_within (parsed_number (d ∷ ds))) other ∙ ap space_within number ∙ ap (λ x. if x then Some n else None) within

digits_again : (n : ℕ) → 0 < n → n < 65536 → space_in (decimal n) ≡ Some n
digits_again n some small =
    space_of_digits (decimal n) n (decimal_is_IsNumeral n (omega arith)).0.0 (first_decimal n some (omega arith)) (number_again n small) small

-- A printed key is read back.

behind_again : (space : ℕ) (own : List ℕ) → IsBytes own → key_of_own_word (Some space) (printed own) ≡ Some (key_of space own)
behind_again space own fit = some (printed own) (longer own) (value_again own fit)
  where
    some : (word : List ℕ) → 0 < length word → word_text word ≡ Some own → key_of_own_word (Some space) word ≡ Some (key_of space own)
    some [] long is = absurd (omega arith)
    some (b ∷ word) long is = ap (key_in_space space) is

    byte : (x : Bool) (b : ℕ) (rest : List ℕ) → 0 < length ((if x then b ∷ [] else 92 ∷ 120 ∷ digit_char (b / 16) ∷ digit_char (b % 16) ∷ []) ++ rest)
    byte true b rest = omega arith
    byte false b rest = omega arith

    alone : (x : Bool) (b : ℕ) (bytes : List ℕ) → 0 < length (if x then 92 ∷ 120 ∷ 50 ∷ 100 ∷ [] else flat_map printed_byte (b ∷ bytes))
    alone true b bytes = omega arith
    alone false b bytes = byte (is_plain b) b (flat_map printed_byte bytes)

    longer : (own : List ℕ) → 0 < length (printed own)
    longer [] = omega arith
    longer (b ∷ bytes) = alone (bytes_eq (b ∷ bytes) (45 ∷ [])) b bytes

-- the word of own bytes tells no space
own_again : (own : List ℕ) → IsBytes own → key_text_of (printed own) ≡ Some (key_of 0 own)
own_again own fit = form own ∙ ap (key_in_space 0) (value_again own fit)
  where
    plain : (b : ℕ) (rest : List ℕ) → is_plain b ≡ true → key_text_of (b ∷ rest) ≡ key_in_space 0 (word_text (b ∷ rest))
    plain b [] is = refl
    plain b (s ∷ text) is =
        let other : (b == 92) ≡ false = grind (arith, nat_tests) in
        ap (λ x. if x && (s == 115) then key_at_colon text (position (λ c. c == 58) text) else key_in_space 0 (word_text (b ∷ s ∷ text))) other

    byte : (x : Bool) (b : ℕ) (rest : List ℕ) → is_plain b ≡ x
        → key_text_of ((if x then b ∷ [] else 92 ∷ 120 ∷ digit_char (b / 16) ∷ digit_char (b % 16) ∷ []) ++ rest) ≡ key_in_space 0 (word_text ((if x then b ∷ [] else 92 ∷ 120 ∷ digit_char (b / 16) ∷ digit_char (b % 16) ∷ []) ++ rest))
    byte true b rest is = plain b rest is
    byte false b rest is = refl

    alone : (x : Bool) (b : ℕ) (bytes : List ℕ)
        → key_text_of (if x then 92 ∷ 120 ∷ 50 ∷ 100 ∷ [] else flat_map printed_byte (b ∷ bytes)) ≡ key_in_space 0 (word_text (if x then 92 ∷ 120 ∷ 50 ∷ 100 ∷ [] else flat_map printed_byte (b ∷ bytes)))
    alone true b bytes = refl
    alone false b bytes = byte (is_plain b) b (flat_map printed_byte bytes) refl

    form : (own : List ℕ) → key_text_of (printed own) ≡ key_in_space 0 (word_text (printed own))
    form [] = refl
    form (b ∷ bytes) = alone (bytes_eq (b ∷ bytes) (45 ∷ [])) b bytes

spaced_again : (space : ℕ) (own : List ℕ) → space < 65536 → IsBytes own → key_text_of (printed_space space ++ printed own) ≡ Some (key_of space own)
spaced_again zero own small fit = own_again own fit
spaced_again (suc n) own small fit =
    let ds = decimal (suc n) in
    let digits = digits_are ds (decimal_is_IsNumeral (suc n) (omega arith)).0.1 in
    let text : (ds ++ 58 ∷ []) ++ printed own ≡ ds ++ 58 ∷ printed own = append_assoc ds (58 ∷ []) (printed own) in
    ap (λ t. key_at_colon t (position (λ c. c == 58) t)) text
    ∙ ap (key_at_colon (ds ++ 58 ∷ printed own)) (found_at (λ c. c == 58) ds 58 (printed own) (not_colon ds digits) refl)
    ∙ ap (λ t. key_of_own_word (space_in t) (drop (length ds + 1) (ds ++ 58 ∷ printed own))) (taken ds (58 ∷ printed own))
    ∙ ap (λ t. key_of_own_word t (drop (length ds + 1) (ds ++ 58 ∷ printed own))) (digits_again (suc n) (omega arith) small)
    ∙ ap (key_of_own_word (Some (suc n))) (dropped ds 58 (printed own))
    ∙ behind_again (suc n) own fit

pub key_parts : (key : List ℕ) → IsBytes key → 2 ≤ length key → (space_of key < 65536) × (key_of (space_of key) (own_bytes key) ≡ key) × IsBytes (own_bytes key)
key_parts [] fit long = absurd (omega (arith, long))
key_parts (a ∷ []) fit long = absurd (omega (arith, long))
key_parts (a ∷ b ∷ own) fit long =
    let high : a < 256 = fit 0 in
    let low : b < 256 = fit 1 in
    let first : (a * 256 + b) / 256 % 256 ≡ a = omega (arith, high, low) in
    let second : (a * 256 + b) % 256 ≡ b = omega (arith, low) in
    (omega (arith, high, low), rw (first, second) refl, λ i. fit (suc (suc i)))

pub key_again : (key : List ℕ) → IsBytes key → 2 ≤ length key → key_text_of (printed_key key) ≡ Some key
key_again key fit long =
    let parts = key_parts key fit long in
    spaced_again (space_of key) (own_bytes key) parts.0 parts.2 ∙ ap Some parts.1

shown_space : (space : ℕ) → space < 65536 → list_all is_shown (printed_space space) ≡ true
shown_space zero small = refl
shown_space (suc n) small =
    list_all-append is_shown (decimal (suc n)) (58 ∷ [])
    ∙ and_true (list_all is_shown (decimal (suc n))) true (digits_shown (decimal (suc n)) (digits_are (decimal (suc n)) (decimal_is_IsNumeral (suc n) (omega arith)).0.1)) refl

pub shown_key : (key : List ℕ) → IsBytes key → 2 ≤ length key → list_all is_shown (printed_key key) ≡ true
shown_key key fit long =
    let parts = key_parts key fit long in
    list_all-append is_shown (printed_space (space_of key)) (printed (own_bytes key))
    ∙ and_true (list_all is_shown (printed_space (space_of key))) (list_all is_shown (printed (own_bytes key))) (shown_space (space_of key) parts.0) (shown_value (own_bytes key) parts.2)
