-- A pair that is written is read back.
use Rattle.std.proofs.Common.{◌≡◌, ℕ, suc, ◌<◌, ◌≤◌, ◌==◌, nat_lt, Bool, true, false, List, [], ◌∷◌, ◌++◌, length, BTreeMap, String, Global, string_bytes, Option, Some, None, refl, sym, ap, ◌∙◌, append-nil, arith, rules, codes, decimal}
use Rattle.std.specs.Borrow.{Bor}
use Rattle.std.specs.Prelude.{if◌then◌else◌, option_and_then, option_map, unwrap_or}
use Rattle.std.specs.Result.{result_ok}
use Rattle.std.specs.Str.{IsUtf8, is_utf8}
use Rattle.std.proofs.lemmas.Bool.{false_from_ne_true}
use Rattle.std.proofs.lemmas.Bool.Decides.{nat_tests}
use Rattle.std.proofs.lemmas.Fmt.{IsAscii-decimal}
use Rattle.std.proofs.lemmas.Str.{IsUtf8-append, IsUtf8-nil, IsUtf8-from_ascii, IsUtf8-from_is_utf8, is_utf8-from_IsUtf8}
use Rattle.pc_types.specs.Bytes.{IsBytes}
use Rattle.base64.specs.Engines.{standard}
use Rattle.base64.specs.GeneralPurpose.{decode_of, encode_of}
use Rattle.base64.proofs.EngineFacts.{IsAscii-encode_of, decode_of-encode_of}
use Rattle.json.specs.Json as json
use Rattle.json.specs.Json.{document, if_last, value}
use Rattle.json.specs.Strict.{keys}
use Rattle.json.specs.Value as json_value
use Rattle.json.specs.declared.value.Value as written
use Rattle.json.specs.Lex.{tokens}
use Rattle.json.specs.Tree.{HasNumbers, depth, json_tokens}
use Rattle.json.proofs.Printed.Decimals.{IsNumber-decimal}
use Rattle.json.specs.Print.{quoted}
use Rattle.json.proofs.Printed.Utf8.{IsUtf8-are_ascii, IsUtf8-quoted}
use Rattle.json.proofs.Printed.Tokens.{tokens-print}
use Rattle.json.proofs.Printed.Trees.{ArePrintable-json_tokens, value-json_tokens}
use Rattle.serde_json.specs.Data.{Data, Members, member, no_members, number, object, put, string, unsigned}
use Rattle.serde_json.specs.Events.{members_len}
use Rattle.serde_json.specs.Read.{max_depth, number_of, of_json, read}
use Rattle.serde_json.specs.View.{members_view, view}
use Rattle.serde_json.specs.Written.{comma_if, compact_text, members_text, outline}
use Rattle.serde_json.proofs.Numbers.{number_of-decimal}
use Rattle.serde_json.proofs.Texts.{print-outline}
use Rattle.serde_json.specs.declared.value.Value.{Value, the_lemmas}
use Rattle.serde_json.specs.declared.value.Value.TheVariants as variant
use Rattle.pc_json.specs.JsonLines.{json_of, json_pair, json_text, line_pair, member_count, names_in, names_written, object_pair, with_bytes}

pub view_string : (s : String Global) → view (variant.String s) ≡ string (string_bytes s)
view_string s = search (rules, the_lemmas)

pub view_object : (m : BTreeMap (String Global) Value) → view (variant.Object m) ≡ object (members_view m.entries)
view_object m = search (rules, the_lemmas)

pub length_of : (members : List (String Global × Value)) → members_len (members_view members) ≡ length members
length_of [] = refl
length_of (m ∷ members) = ap suc (length_of members)

not_utf8 : (bytes : List ℕ) → ¬ IsUtf8 bytes → is_utf8 bytes ≡ false
not_utf8 bytes other = false_from_ne_true (is_utf8 bytes) (λ is. other (IsUtf8-from_is_utf8 bytes is))

-- ---- the names that are written

pub names_of : {A : Type 0} (members : List (Bor (List ℕ) × written.Value A)) → length (keys (json_value.members_view members)) ≡ length members
names_of [] = refl
names_of (m ∷ members) = ap suc (names_of members)

-- ---- members

pub as_text : (name name64 bytes text : List ℕ) (members : Members) → text ≡ bytes → IsUtf8 bytes → put name (string text) members ≡ with_bytes name name64 bytes members
as_text name name64 bytes text members same utf8 =
    ap (λ t. put name (string t) members) same
    ∙ sym (ap (λ x. if x then put name (string bytes) members else put name64 (string (encode_of standard bytes)) members) (is_utf8-from_IsUtf8 bytes utf8))

pub as_base64 : (name name64 bytes text : List ℕ) (members : Members) → text ≡ encode_of standard bytes → ¬ IsUtf8 bytes → put name64 (string text) members ≡ with_bytes name name64 bytes members
as_base64 name name64 bytes text members same utf8 =
    ap (λ t. put name64 (string t) members) same
    ∙ sym (ap (λ x. if x then put name (string bytes) members else put name64 (string (encode_of standard bytes)) members) (not_utf8 bytes utf8))

-- ---- lines

pub no_line : (line : List ℕ) → ¬ IsUtf8 line → None ≡ json_pair line
no_line line other = sym (ap (λ x. if x then option_and_then (line_pair line) (read line) else None) (not_utf8 line other))

pub line_is : (line text : List ℕ) (found : Option Data) → text ≡ line → IsUtf8 line → read text ≡ found → json_pair line ≡ option_and_then (line_pair text) found
line_is line text found same utf8 is =
    ap (λ x. if x then option_and_then (line_pair line) (read line) else None) (is_utf8-from_IsUtf8 line utf8) ∙ ap (λ t. option_and_then (line_pair t) (read t)) (sym same) ∙ ap (option_and_then (line_pair text)) is

decoded_again : (bytes : List ℕ) → IsBytes bytes → result_ok (decode_of standard (encode_of standard bytes)) ≡ Some bytes
decoded_again bytes fit = ap result_ok (decode_of-encode_of standard bytes refl fit)

-- a pair's object gives the pair
pub pair_again : (space : ℕ) (own worth : List ℕ) → space < 65536 → IsBytes own → IsBytes worth → object_pair (json_of space own worth) ≡ Some (space, own, worth)
pair_again space own worth small own_fits worth_fits = by (is_utf8 worth) (is_utf8 own) (space == 0) refl
  where
    within : nat_lt space 65536 ≡ true
    within = grind (arith, nat_tests)

    by : (a b none : Bool) → (space == 0) ≡ none →
        object_pair (object (
        let first : Members = if b then put (codes "key") (string own) no_members else put (codes "key64") (string (encode_of standard own)) no_members in
        let second : Members = if none then first else put (codes "space") (number (unsigned space)) first in
        if a then put (codes "value") (string worth) second else put (codes "value64") (string (encode_of standard worth)) second)) ≡ Some (space, own, worth)
    by true true true is = let zero : space ≡ 0 = grind (arith, nat_tests) in rw zero refl
    by true false true is = let zero : space ≡ 0 = grind (arith, nat_tests) in rw (decoded_again own own_fits, zero) refl
    by false true true is = let zero : space ≡ 0 = grind (arith, nat_tests) in rw (decoded_again worth worth_fits, zero) refl
    by false false true is = let zero : space ≡ 0 = grind (arith, nat_tests) in rw (decoded_again own own_fits, decoded_again worth worth_fits, zero) refl
    by true true false is = rw within refl
    by true false false is = rw (decoded_again own own_fits, within) refl
    by false true false is = rw (decoded_again worth worth_fits, within) refl
    by false false false is = rw (decoded_again own own_fits, decoded_again worth worth_fits, within) refl

-- ---- a pair's line is JSON in UTF-8, of the pair's object

module _ (space : ℕ) (own worth : List ℕ) (small : space < 65536) where
  abbrev made : Bool → Bool → Bool → Data
  made a b none = object (
      let first : Members = if b then put (codes "key") (string own) no_members else put (codes "key64") (string (encode_of standard own)) no_members in
      let second : Members = if none then first else put (codes "space") (number (unsigned space)) first in
      if a then put (codes "value") (string worth) second else put (codes "value64") (string (encode_of standard worth)) second)

  again : number_of (decimal space) ≡ Some (unsigned space)
  again = number_of-decimal space (omega arith)

  outlined : (a b none : Bool) → of_json (outline (made a b none)) ≡ Some (made a b none)
  outlined true true true = refl
  outlined true false true = refl
  outlined false true true = refl
  outlined false false true = refl
  outlined true true false = rw again refl
  outlined true false false = rw again refl
  outlined false true false = rw again refl
  outlined false false false = rw again refl

  numbered : (a b none : Bool) → HasNumbers (outline (made a b none))
  numbered true true true = (tt, (tt, tt))
  numbered true false true = (tt, (tt, tt))
  numbered false true true = (tt, (tt, tt))
  numbered false false true = (tt, (tt, tt))
  numbered true true false = (tt, (IsNumber-decimal space (omega arith), (tt, tt)))
  numbered true false false = (tt, (IsNumber-decimal space (omega arith), (tt, tt)))
  numbered false true false = (tt, (IsNumber-decimal space (omega arith), (tt, tt)))
  numbered false false false = (tt, (IsNumber-decimal space (omega arith), (tt, tt)))

  shallow : (a b none : Bool) → depth (outline (made a b none)) ≤ max_depth
  shallow true true true = omega arith
  shallow true false true = omega arith
  shallow false true true = omega arith
  shallow false false true = omega arith
  shallow true true false = omega arith
  shallow true false false = omega arith
  shallow false true false = omega arith
  shallow false false false = omega arith

  counted : (a b none : Bool) → names_in (outline (made a b none)) == member_count (made a b none) ≡ true
  counted true true true = refl
  counted true false true = refl
  counted false true true = refl
  counted false false true = refl
  counted true true false = refl
  counted true false false = refl
  counted false true false = refl
  counted false false false = refl

  document_again : document (json_text space own worth) ≡ Some (outline (json_of space own worth))
  document_again =
      let a = is_utf8 worth in
      let b = is_utf8 own in
      let none = space == 0 in
      let it = outline (json_of space own worth) in
      let again : tokens (json_text space own worth) ≡ json_tokens it ++ [] =
      ap tokens (sym (print-outline (json_of space own worth))) ∙ tokens-print (json_tokens it) (ArePrintable-json_tokens it (numbered a b none)) ∙ sym (append-nil (json_tokens it)) in
      ap (λ ts. option_and_then (λ p. if_last p.0 p.1) (value json.max_depth ts)) again
      ∙ ap (λ o. option_and_then (λ p. if_last p.0 p.1) o) (value-json_tokens it json.max_depth [] (let less = shallow a b none in omega (arith, less)))

  once_again : names_written (json_text space own worth) == member_count (json_of space own worth) ≡ true
  once_again =
      ap (λ found. unwrap_or (option_map names_in found) 0 == member_count (json_of space own worth)) document_again ∙ counted (is_utf8 worth) (is_utf8 own) (space == 0)

  read_again : read (json_text space own worth) ≡ Some (json_of space own worth)
  read_again =
      let a = is_utf8 worth in
      let b = is_utf8 own in
      let none = space == 0 in
      let json = outline (json_of space own worth) in
      let again : tokens (json_text space own worth) ≡ json_tokens json ++ [] =
      ap tokens (sym (print-outline (json_of space own worth))) ∙ tokens-print (json_tokens json) (ArePrintable-json_tokens json (numbered a b none)) ∙ sym (append-nil (json_tokens json)) in
      ap (λ ts. option_and_then of_json (option_and_then (λ p. if_last p.0 p.1) (value max_depth ts))) again
      ∙ ap (λ o. option_and_then of_json (option_and_then (λ p. if_last p.0 p.1) o)) (value-json_tokens json max_depth [] (shallow a b none))
      ∙ outlined a b none

-- texts of text

utf8_member : (later : Bool) (name : List ℕ) (held : Data) (members : Members) → IsUtf8 name → IsUtf8 (compact_text held) → IsUtf8 (members_text true members) → IsUtf8 (members_text later (member name held members))
utf8_member later name held members named first others =
    IsUtf8-append (comma_if later) (quoted name ++ 58 ∷ (compact_text held ++ members_text true members)) (comma later)
    (IsUtf8-append (quoted name) (58 ∷ (compact_text held ++ members_text true members)) (IsUtf8-quoted name named)
    (IsUtf8-append (58 ∷ []) (compact_text held ++ members_text true members) (IsUtf8-are_ascii (58 ∷ []) refl) (IsUtf8-append (compact_text held) (members_text true members) first others)))
  where
    comma : (later : Bool) → IsUtf8 (comma_if later)
    comma true = IsUtf8-are_ascii (44 ∷ []) refl
    comma false = IsUtf8-nil

utf8_end : IsUtf8 (members_text true no_members)
utf8_end = IsUtf8-are_ascii (125 ∷ []) refl

utf8_base64 : (bytes : List ℕ) → IsUtf8 (quoted (encode_of standard bytes))
utf8_base64 bytes = IsUtf8-quoted (encode_of standard bytes) (IsUtf8-from_ascii (encode_of standard bytes) (IsAscii-encode_of standard bytes))

module _ (space : ℕ) (own worth : List ℕ) (small : space < 65536) where
  abbrev last_member : Bool → Members
  last_member true = member (codes "value") (string worth) no_members
  last_member false = member (codes "value64") (string (encode_of standard worth)) no_members

  abbrev later_members : Bool → Bool → Members
  later_members true a = last_member a
  later_members false a = member (codes "space") (number (unsigned space)) (last_member a)

  abbrev all_members : Bool → Members → Members
  all_members true later = member (codes "key") (string own) later
  all_members false later = member (codes "key64") (string (encode_of standard own)) later

  texted : (bytes : List ℕ) → is_utf8 bytes ≡ true → IsUtf8 (compact_text (string bytes))
  texted bytes is = IsUtf8-quoted bytes (IsUtf8-from_is_utf8 bytes is)

  last_text : (a : Bool) → is_utf8 worth ≡ a → IsUtf8 (members_text true (last_member a))
  last_text true is = utf8_member true (codes "value") (string worth) no_members (IsUtf8-are_ascii (codes "value") refl) (texted worth is) utf8_end
  last_text false is = utf8_member true (codes "value64") (string (encode_of standard worth)) no_members (IsUtf8-are_ascii (codes "value64") refl) (utf8_base64 worth) utf8_end

  later_text : (none a : Bool) → is_utf8 worth ≡ a → IsUtf8 (members_text true (later_members none a))
  later_text true a is = last_text a is
  later_text false a is =
      utf8_member true (codes "space") (number (unsigned space)) (last_member a) (IsUtf8-are_ascii (codes "space") refl) (IsUtf8-from_ascii (decimal space) (IsAscii-decimal space (omega arith))) (last_text a is)

  all_text : (b : Bool) (later : Members) → is_utf8 own ≡ b → IsUtf8 (members_text true later) → IsUtf8 (compact_text (object (all_members b later)))
  all_text true later is text =
      IsUtf8-append (123 ∷ []) (members_text false (all_members true later)) (IsUtf8-are_ascii (123 ∷ []) refl) (utf8_member false (codes "key") (string own) later (IsUtf8-are_ascii (codes "key") refl) (texted own is) text)
  all_text false later is text =
      IsUtf8-append (123 ∷ []) (members_text false (all_members false later)) (IsUtf8-are_ascii (123 ∷ []) refl)
      (utf8_member false (codes "key64") (string (encode_of standard own)) later (IsUtf8-are_ascii (codes "key64") refl) (utf8_base64 own) text)

  made_text : (a b none : Bool) → is_utf8 worth ≡ a → is_utf8 own ≡ b → IsUtf8 (compact_text (made space own worth small a b none))
  made_text true true true value_is key_is = all_text true (last_member true) key_is (later_text true true value_is)
  made_text true false true value_is key_is = all_text false (last_member true) key_is (later_text true true value_is)
  made_text false true true value_is key_is = all_text true (last_member false) key_is (later_text true false value_is)
  made_text false false true value_is key_is = all_text false (last_member false) key_is (later_text true false value_is)
  made_text true true false value_is key_is = all_text true (later_members false true) key_is (later_text false true value_is)
  made_text true false false value_is key_is = all_text false (later_members false true) key_is (later_text false true value_is)
  made_text false true false value_is key_is = all_text true (later_members false false) key_is (later_text false false value_is)
  made_text false false false value_is key_is = all_text false (later_members false false) key_is (later_text false false value_is)

  -- a pair's line is UTF-8
  utf8_text : IsUtf8 (json_text space own worth)
  utf8_text = made_text (is_utf8 worth) (is_utf8 own) (space == 0) refl refl

-- A pair's line is read back as the pair.
pub json_again : (space : ℕ) (own worth : List ℕ) → space < 65536 → IsBytes own → IsBytes worth → json_pair (json_text space own worth) ≡ Some (space, own, worth)
json_again space own worth small own_fits worth_fits =
    line_is (json_text space own worth) (json_text space own worth) (Some (json_of space own worth)) refl (utf8_text space own worth small) (read_again space own worth small)
    ∙ ap (λ x. if x then object_pair (json_of space own worth) else None) (once_again space own worth small)
    ∙ pair_again space own worth small own_fits worth_fits
