-- A pair's line has no byte below a space, so no end of a line.
use Rattle.std.proofs.Common.{◌≡◌, ℕ, ◌<◌, ◌/◌, ◌%◌, ◌==◌, ◌&&◌, ◌||◌, nat_lt, Bool, true, false, cond, List, [], ◌∷◌, ◌++◌, refl, ◌∙◌, arith, codes, decimal}
use Rattle.std.specs.Prelude.{if◌then◌else◌}
use Rattle.std.specs.List.{list_all}
use Rattle.std.specs.Char.{digit_char}
use Rattle.std.proofs.lemmas.Bool.Decides.{nat_tests}
use Rattle.std.proofs.lemmas.List.Folds.{list_all-append}
use Rattle.std.specs.Str.{is_utf8}
use Rattle.std.specs.Str.Parse.{AllDigits}
use Rattle.std.proofs.lemmas.Str.Parse.{digit_from_value}
use Rattle.std.proofs.lemmas.Fmt.{decimal_is_IsNumeral}
use Rattle.json.specs.Print.{escape, escape_byte, escape_letter, quoted}
use Rattle.base64.specs.Engines.{standard}
use Rattle.base64.specs.GeneralPurpose.{encode_of}
use Rattle.serde_json.specs.Data.{Data, Members, member, no_members, number, object, put, string, unsigned}
use Rattle.serde_json.specs.Written.{comma_if, compact_text, members_text}
use Rattle.pc_json.specs.JsonLines.{json_text}

abbrev pub is_kept : ℕ → Bool
is_kept b = nat_lt 31 b

both_true : (a b : Bool) → a ≡ true → b ≡ true → (a && b) ≡ true
both_true true b is other = other
both_true false b is other = absurd (grind arith)

letter_kept : (x : ℕ) → nat_lt 0 (escape_letter x) ≡ true → nat_lt 31 (escape_letter x) ≡ true
letter_kept x some = by ((x == 34) || (x == 92)) (x == 8) (x == 12) (x == 10) (x == 13) (x == 9) refl some
  where
    by : (a b c d e f : Bool) → ((x == 34) || (x == 92)) ≡ a → nat_lt 0 (cond a x (cond b 98 (cond c 102 (cond d 110 (cond e 114 (cond f 116 0)))))) ≡ true
        → nat_lt 31 (cond a x (cond b 98 (cond c 102 (cond d 110 (cond e 114 (cond f 116 0)))))) ≡ true
    by true b c d e f is some = grind (arith, nat_tests)
    by false true c d e f is some = refl
    by false false true d e f is some = refl
    by false false false true e f is some = refl
    by false false false false true f is some = refl
    by false false false false false true is some = refl
    by false false false false false false is some = some

digit_kept : (n : ℕ) → is_kept (digit_char n) ≡ true
digit_kept n = grind (arith, nat_tests)

byte_kept : (x : ℕ) → list_all is_kept (escape_byte x) ≡ true
unfolding escape_byte
byte_kept x = by (nat_lt 0 (escape_letter x)) (nat_lt x 32) refl refl
  where
    by : (a b : Bool) → nat_lt 0 (escape_letter x) ≡ a → nat_lt x 32 ≡ b
        → list_all is_kept (cond a (92 ∷ escape_letter x ∷ []) (cond b (92 ∷ 117 ∷ 48 ∷ 48 ∷ digit_char (x / 16) ∷ digit_char (x % 16) ∷ []) (x ∷ []))) ≡ true
    by true b some low = both_true (is_kept (escape_letter x)) true (letter_kept x some) refl
    by false true some low = both_true (is_kept (digit_char (x / 16))) (is_kept (digit_char (x % 16)) && true) (digit_kept (x / 16)) (both_true (is_kept (digit_char (x % 16))) true (digit_kept (x % 16)) refl)
    by false false some low = let high : is_kept x ≡ true = grind (arith, nat_tests) in both_true (is_kept x) true high refl

escape_kept : (s : List ℕ) → list_all is_kept (escape s) ≡ true
escape_kept [] = refl
escape_kept (x ∷ s) = list_all-append is_kept (escape_byte x) (escape s) ∙ both_true (list_all is_kept (escape_byte x)) (list_all is_kept (escape s)) (byte_kept x) (escape_kept s)

digits_kept : (digits : List ℕ) → AllDigits 10 digits → list_all is_kept digits ≡ true
digits_kept [] all = refl
digits_kept (d ∷ digits) all =
    let bounds = digit_from_value d all.0 in
    let kept : is_kept d ≡ true = grind (arith, nat_tests, bounds) in
    both_true (is_kept d) (list_all is_kept digits) kept (digits_kept digits all.1)

quoted_kept : (s : List ℕ) → list_all is_kept (quoted s) ≡ true
quoted_kept s = list_all-append is_kept (escape s) (34 ∷ []) ∙ both_true (list_all is_kept (escape s)) true (escape_kept s) refl

number_kept : (n : ℕ) → n < 65536 → list_all is_kept (compact_text (number (unsigned n))) ≡ true
number_kept n small = digits_kept (decimal n) (decimal_is_IsNumeral n (omega arith)).0.1

member_kept : (later : Bool) (name : List ℕ) (held : Data) (members : Members) → list_all is_kept (compact_text held) ≡ true → list_all is_kept (members_text true members) ≡ true → list_all is_kept (members_text later (member name held members)) ≡ true
member_kept later name held members first others =
    list_all-append is_kept (comma_if later) (quoted name ++ 58 ∷ (compact_text held ++ members_text true members))
    ∙ both_true (list_all is_kept (comma_if later)) (list_all is_kept (quoted name ++ 58 ∷ (compact_text held ++ members_text true members))) (comma later)
    (list_all-append is_kept (quoted name) (58 ∷ (compact_text held ++ members_text true members))
    ∙ both_true (list_all is_kept (quoted name)) (list_all is_kept (compact_text held ++ members_text true members)) (quoted_kept name)
    (list_all-append is_kept (compact_text held) (members_text true members) ∙ both_true (list_all is_kept (compact_text held)) (list_all is_kept (members_text true members)) first others))
  where
    comma : (later : Bool) → list_all is_kept (comma_if later) ≡ true
    comma true = refl
    comma false = refl

-- the members after the key's, if there is a space
behind_key : (space : ℕ) (name bytes : List ℕ) → space < 65536 → list_all is_kept (members_text true (member (codes "space") (number (unsigned space)) (member name (string bytes) no_members))) ≡ true
behind_key space name bytes small =
    member_kept true (codes "space") (number (unsigned space)) (member name (string bytes) no_members) (number_kept space small) (member_kept true name (string bytes) no_members (quoted_kept bytes) refl)

-- a pair's line has no byte below a space
pub line_kept : (space : ℕ) (own worth : List ℕ) → space < 65536 → list_all is_kept (json_text space own worth) ≡ true
line_kept space own worth small = by (is_utf8 worth) (is_utf8 own) (space == 0)
  where
    own64 : List ℕ
    own64 = encode_of standard own

    worth64 : List ℕ
    worth64 = encode_of standard worth

    behind : (name bytes : List ℕ) → list_all is_kept (members_text true (member (codes "space") (number (unsigned space)) (member name (string bytes) no_members))) ≡ true
    behind name bytes = behind_key space name bytes small

    by : (a b none : Bool) →
        list_all is_kept (compact_text (object (
        let first : Members = if b then put (codes "key") (string own) no_members else put (codes "key64") (string own64) no_members in
        let second : Members = if none then first else put (codes "space") (number (unsigned space)) first in
        if a then put (codes "value") (string worth) second else put (codes "value64") (string worth64) second))) ≡ true
    by true true true = member_kept false (codes "key") (string own) (member (codes "value") (string worth) no_members) (quoted_kept own) (member_kept true (codes "value") (string worth) no_members (quoted_kept worth) refl)
    by true false true = member_kept false (codes "key64") (string own64) (member (codes "value") (string worth) no_members) (quoted_kept own64) (member_kept true (codes "value") (string worth) no_members (quoted_kept worth) refl)
    by false true true = member_kept false (codes "key") (string own) (member (codes "value64") (string worth64) no_members) (quoted_kept own) (member_kept true (codes "value64") (string worth64) no_members (quoted_kept worth64) refl)
    by false false true = member_kept false (codes "key64") (string own64) (member (codes "value64") (string worth64) no_members) (quoted_kept own64) (member_kept true (codes "value64") (string worth64) no_members (quoted_kept worth64) refl)
    by true true false = member_kept false (codes "key") (string own) (member (codes "space") (number (unsigned space)) (member (codes "value") (string worth) no_members)) (quoted_kept own) (behind (codes "value") worth)
    by true false false = member_kept false (codes "key64") (string own64) (member (codes "space") (number (unsigned space)) (member (codes "value") (string worth) no_members)) (quoted_kept own64) (behind (codes "value") worth)
    by false true false = member_kept false (codes "key") (string own) (member (codes "space") (number (unsigned space)) (member (codes "value64") (string worth64) no_members)) (quoted_kept own) (behind (codes "value64") worth64)
    by false false false = member_kept false (codes "key64") (string own64) (member (codes "space") (number (unsigned space)) (member (codes "value64") (string worth64) no_members)) (quoted_kept own64) (behind (codes "value64") worth64)
