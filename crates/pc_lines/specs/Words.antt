-- The words of a script: numbers, and the texts of keys and values.
use Rattle.std.specs.Prelude.{ℕ, ◌+◌, ◌*◌, ◌-◌, ◌==◌, ◌&&◌, not, nat_lt, Bool, true, false, ℤ, pos, neg_ℤ, List, [], ◌∷◌, Option, Some, None, if◌then◌else◌, length, take, drop}
use Rattle.std.specs.List.{list_all, position}
use Rattle.std.specs.Str.{bytes_eq}
use Rattle.std.specs.Str.Parse.{digits_value}
use Rattle.pc_types.specs.Changes.{fits_i64}
use Rattle.pc_types.specs.Keys.{key_of}

-- a decimal digit, 0 to 9
abbrev pub is_digit : ℕ → Bool
is_digit b = nat_lt 47 b && nat_lt b 58

-- 1 to 9 decimal digits
abbrev pub is_numeral : List ℕ → Bool
is_numeral word = nat_lt 0 (length word) && nat_lt (length word) 10 && list_all is_digit word

-- the number that a word writes; none if it isn't 1 to 9 decimal digits
abbrev pub parsed_number : List ℕ → Option ℕ
parsed_number word = if is_numeral word then Some (digits_value 10 word) else None

-- 1 to 19 decimal digits
abbrev pub is_long_numeral : List ℕ → Bool
is_long_numeral word = nat_lt 0 (length word) && nat_lt (length word) 20 && list_all is_digit word

-- the number, if 64 bits hold it with its sign
abbrev pub checked_i64 : ℤ → Option ℤ
checked_i64 z = if fits_i64 z then Some z else None

-- the same of the number of this size, which is below 0 if there is a minus
abbrev pub signed_by : Bool → ℕ → Option ℤ
signed_by minus size = checked_i64 (if minus then neg_ℤ (pos size) else pos size)

-- the same of the size that 1 to 19 decimal digits write
abbrev pub parsed_long_number : Bool → List ℕ → Option ℤ
parsed_long_number minus digits = if is_long_numeral digits then signed_by minus (digits_value 10 digits) else None

-- the signed number that a word writes: 1 to 19 decimal digits, with a hyphen before them as its minus; none if it isn't so, or 64
-- bits don't hold the number
abbrev pub signed_number_of : List ℕ → Option ℤ
signed_number_of [] = None
signed_number_of (b ∷ word) = if b == 45 then parsed_long_number true word else parsed_long_number false (b ∷ word)

-- a byte that represents itself: 0x21 to 0x7E, but not the backslash
abbrev pub is_plain : ℕ → Bool
is_plain b = nat_lt 32 b && nat_lt b 127 && not (b == 92)

-- the value of a hexadecimal digit, 0 to 9 or a to f in lower case
abbrev pub hex_value : ℕ → Option ℕ
hex_value b = if is_digit b then Some (b - 48) else (if nat_lt 96 b && nat_lt b 103 then Some (b - 87) else None)

-- the byte of two hexadecimal digits
abbrev pub byte_of_hex : Option ℕ → Option ℕ → Option ℕ
byte_of_hex (Some high) (Some low) = Some (high * 16 + low)
byte_of_hex high low = None

-- the byte that an escape represents: a backslash, an x and two hexadecimal digits
abbrev pub escaped : ℕ → ℕ → ℕ → ℕ → Option ℕ
escaped b x high low = if b == 92 && x == 120 then byte_of_hex (hex_value high) (hex_value low) else None

-- the text with the byte in front
abbrev pub with_byte : ℕ → Option (List ℕ) → Option (List ℕ)
with_byte b None = None
with_byte b (Some text) = Some (b ∷ text)

-- the text with a plain byte in front
abbrev pub with_plain : ℕ → Option (List ℕ) → Option (List ℕ)
with_plain b text = if is_plain b then with_byte b text else None

-- the text with the escape's byte in front, or the other one if there is no escape
abbrev pub with_escape : Option ℕ → Option (List ℕ) → Option (List ℕ) → Option (List ℕ)
with_escape (Some b) text other = with_byte b text
with_escape None text other = other

-- the bytes that a word of plain bytes and escapes represents
abbrev pub unescaped : List ℕ → Option (List ℕ)
unescaped [] = Some []
unescaped (b ∷ x ∷ high ∷ low ∷ word) = with_escape (escaped b x high low) (unescaped word) (with_plain b (unescaped (x ∷ high ∷ low ∷ word)))
unescaped (b ∷ word) = with_plain b (unescaped word)

-- the text of a key or value word: a hyphen alone represents no bytes
abbrev pub word_text : List ℕ → Option (List ℕ)
word_text word = if bytes_eq word (45 ∷ []) then Some [] else unescaped word

-- Key words. `\sN:` before the word of a key's own bytes gives its space, N from 1 to 65535; without it the space is 0.

-- the space of this number; none if it is above 65,535
abbrev pub space_within : Option ℕ → Option ℕ
space_within None = None
space_within (Some number) = if nat_lt number 65536 then Some number else None

-- the space that decimal digits write, of which the first isn't 0
abbrev pub space_in : List ℕ → Option ℕ
space_in [] = None
space_in (b ∷ digits) = if b == 48 then None else space_within (parsed_number (b ∷ digits))

-- the key of a text of own bytes
abbrev pub key_in_space : ℕ → Option (List ℕ) → Option (List ℕ)
key_in_space space None = None
key_in_space space (Some own) = Some (key_of space own)

-- the same of a word of own bytes, which isn't empty
abbrev pub key_of_own_word : Option ℕ → List ℕ → Option (List ℕ)
key_of_own_word None word = None
key_of_own_word (Some space) [] = None
key_of_own_word (Some space) (b ∷ word) = key_in_space space (word_text (b ∷ word))

-- the key of a space's digits, a colon at this place, and the word after it
abbrev pub key_at_colon : List ℕ → Option ℕ → Option (List ℕ)
key_at_colon text None = None
key_at_colon text (Some at) = key_of_own_word (space_in (take at text)) (drop (at + 1) text)

-- the key of a key word: the bytes of its space, and after them those of its own, which may be too few or too many for a key
abbrev pub key_text_of : List ℕ → Option (List ℕ)
key_text_of (b ∷ s ∷ text) = if b == 92 && s == 115 then key_at_colon text (position (λ c. c == 58) text) else key_in_space 0 (word_text (b ∷ s ∷ text))
key_text_of word = key_in_space 0 (word_text word)
