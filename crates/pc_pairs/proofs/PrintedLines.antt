-- The lines of pairs are read back.
use Rattle.std.proofs.Common.{◌≡◌, ◌≢◌, inr, ℕ, zero, suc, ◌+◌, ◌-◌, ◌<◌, ◌≤◌, ◌==◌, ◌&&◌, not, Bool, true, false, cond, nat_lt, List, [], ◌∷◌, ◌++◌, length, map, take, drop, Some, slice_index, refl, ap, ◌∙◌, arith, length-append}
use Rattle.std.specs.Prelude.{if◌then◌else◌}
use Rattle.std.specs.List.{All, list_all}
use Rattle.std.proofs.lemmas.Bool.Decides.{nat_tests}
use Rattle.std.proofs.lemmas.List.Folds.{list_all-append}
use Rattle.bstr.specs.Text.{lines_of, no_cr, without_terminator}
use Rattle.bstr.proofs.lemmas.LineLemmas.{EndsLine, lines-append, lines-nil, lines-one}
use Rattle.pc_lines.specs.Lines.{is_key, is_value, lines_in}
use Rattle.pc_lines.specs.Words.{key_text_of, word_text}
use Rattle.pc_texts.specs.Texts.{printed, printed_key}
use Rattle.pc_types.specs.Keys.{own_bytes, space_of}
use Rattle.pc_json.proofs.JsonLaws.{json_again}
use Rattle.pc_json.proofs.KeptByteLaws.{line_kept as json_kept}
use Rattle.pc_pairs.specs.Dumps.{pair_line, pair_lines}
use Rattle.pc_pairs.specs.declared.form.Form.{Form}
use Rattle.pc_pairs.specs.declared.form.Form.TheVariants as form
use Rattle.pc_pairs.specs.Loads.{IsStorable, pair_around, pair_in, pair_of, pair_of_json, words_pair}
use Rattle.pc_pairs.specs.declared.reading.PairLine.TheVariants as line
use Rattle.pc_pairs.specs.declared.reading.Fault.TheVariants as fault
use Rattle.pc_pairs.proofs.PrintedWords.{and_parts, dropped, found_at, is_shown, key_again, key_parts, shown_key, shown_value, taken, value_again}

-- a byte that ends no line
abbrev is_kept : ℕ → Bool
is_kept b = nat_lt 31 b

and_true : (a b : Bool) → a ≡ true → b ≡ true → (a && b) ≡ true
and_true true b e f = f
and_true false b e f = absurd (grind arith)

no_space : (word : List ℕ) → list_all is_shown word ≡ true → list_all (λ b. not (b == 32)) word ≡ true
no_space [] all = refl
no_space (b ∷ word) all =
    let parts = and_parts (is_shown b) (list_all is_shown word) all in
    let other : not (b == 32) ≡ true = let first = parts.0 in grind (arith, nat_tests) in
    and_true (not (b == 32)) (list_all (λ c. not (c == 32)) word) other (no_space word parts.1)

shown_kept : (word : List ℕ) → list_all is_shown word ≡ true → list_all is_kept word ≡ true
shown_kept [] all = refl
shown_kept (b ∷ word) all =
    let parts = and_parts (is_shown b) (list_all is_shown word) all in
    let kept : is_kept b ≡ true = let first = parts.0 in grind (arith, nat_tests) in
    and_true (is_kept b) (list_all is_kept word) kept (shown_kept word parts.1)

words_kept : (pair : List ℕ × List ℕ) → IsStorable pair → list_all is_kept (pair_line form.Words pair) ≡ true
words_kept pair storable =
    list_all-append is_kept (printed_key pair.0) (32 ∷ printed pair.1)
    ∙ and_true (list_all is_kept (printed_key pair.0)) (list_all is_kept (32 ∷ printed pair.1))
    (shown_kept (printed_key pair.0) (shown_key pair.0 storable.1.0 (let key = storable.0.0 in omega (arith, key.0))))
    (shown_kept (printed pair.1) (shown_value pair.1 storable.1.1))

line_kept : (form : Form) (pair : List ℕ × List ℕ) → IsStorable pair → list_all is_kept (pair_line form pair) ≡ true
line_kept form.Words pair storable = words_kept pair storable
line_kept form.Json pair storable =
    let parts = key_parts pair.0 storable.1.0 (let key = storable.0.0 in omega (arith, key.0)) in
    json_kept (space_of pair.0) (own_bytes pair.0) pair.1 parts.0

-- the pair of a pair's line

-- a storable pair's bytes give it
fitting : (pair : List ℕ × List ℕ) → IsStorable pair → pair_of (Some pair.0) (Some pair.1) ≡ line.Pair pair.0 pair.1
fitting pair storable =
    let key_fits : is_key pair.0 ≡ true = let key = storable.0.0 in grind (arith, nat_tests, key.0, key.1) in
    let value_fits : is_value pair.1 ≡ true = let fits = storable.0.1 in grind (arith, nat_tests, fits) in
    ap (λ x. if x then (if is_value pair.1 then line.Pair pair.0 pair.1 else line.Bad fault.ValueLength) else line.Bad fault.KeyLength) key_fits
    ∙ ap (λ x. if x then line.Pair pair.0 pair.1 else line.Bad fault.ValueLength) value_fits

words_again : (pair : List ℕ × List ℕ) → IsStorable pair → words_pair (pair_line form.Words pair) ≡ line.Pair pair.0 pair.1
words_again pair storable =
    let word = printed_key pair.0 in
    let value = printed pair.1 in
    let long : 2 ≤ length pair.0 = let key = storable.0.0 in omega (arith, key.0) in
    ap (pair_around (word ++ 32 ∷ value)) (found_at (λ b. b == 32) word 32 value (no_space word (shown_key pair.0 storable.1.0 long)) refl)
    ∙ ap (λ t. pair_of (key_text_of t) (word_text (drop (length word + 1) (word ++ 32 ∷ value)))) (taken word (32 ∷ value))
    ∙ ap (λ t. pair_of (key_text_of word) (word_text t)) (dropped word 32 value)
    ∙ ap (λ t. pair_of t (word_text value)) (key_again pair.0 storable.1.0 long)
    ∙ ap (pair_of (Some pair.0)) (value_again pair.1 storable.1.1)
    ∙ fitting pair storable

pub pair_again : (form : Form) (pair : List ℕ × List ℕ) → IsStorable pair → pair_in form (pair_line form pair) ≡ line.Pair pair.0 pair.1
pair_again form.Words pair storable = words_again pair storable
pair_again form.Json pair storable =
    let parts = key_parts pair.0 storable.1.0 (let key = storable.0.0 in omega (arith, key.0)) in
    ap pair_of_json (json_again (space_of pair.0) (own_bytes pair.0) pair.1 parts.0 parts.2 storable.1.1)
    ∙ ap (λ key. pair_of (Some key) (Some pair.1)) parts.1
    ∙ fitting pair storable

-- The end of a line.

last_is : (word : List ℕ) → slice_index (word ++ 10 ∷ []) (length word) ≡ 10
last_is [] = refl
last_is (b ∷ word) = last_is word

long_by_one : (word : List ℕ) → length (word ++ 10 ∷ []) - 1 ≡ length word
long_by_one word = omega (arith, length-append word (10 ∷ []))

none_before : (word : List ℕ) (k : ℕ) → list_all is_kept word ≡ true → k < length word → slice_index (word ++ 10 ∷ []) k ≢ 10
none_before [] k all within = absurd (omega arith)
none_before (b ∷ word) zero all within = λ e.
    let parts = and_parts (is_kept b) (list_all is_kept word) all in
    let first = parts.0 in
    let is : b ≡ 10 = e in
    absurd (grind (arith, nat_tests, first, is))
none_before (b ∷ word) (suc k) all within = none_before word k (and_parts (is_kept b) (list_all is_kept word) all).1 (omega arith)

kept_at : (word : List ℕ) (k : ℕ) → list_all is_kept word ≡ true → k < length word → is_kept (slice_index word k) ≡ true
kept_at [] k all within = absurd (omega arith)
kept_at (b ∷ word) zero all within = (and_parts (is_kept b) (list_all is_kept word) all).0
kept_at (b ∷ word) (suc k) all within = kept_at word k (and_parts (is_kept b) (list_all is_kept word) all).1 (omega arith)

front : (word : List ℕ) → take (length word) (word ++ 10 ∷ []) ≡ word
front word = taken word (10 ∷ [])

no_return : (word : List ℕ) → list_all is_kept word ≡ true → no_cr word ≡ word
no_return [] all = refl
no_return (b ∷ word) all =
    let last = kept_at (b ∷ word) (length (b ∷ word) - 1) all (omega arith) in
    let other : (slice_index (b ∷ word) (length (b ∷ word) - 1) == 13) ≡ false = grind (arith, nat_tests, last) in
    let none : (nat_lt 0 (length (b ∷ word)) && (slice_index (b ∷ word) (length (b ∷ word) - 1) == 13)) ≡ false = and_false (nat_lt 0 (length (b ∷ word))) _ other in
    ap (λ x. cond x (take (length (b ∷ word) - 1) (b ∷ word)) (b ∷ word)) none
  where
    and_false : (x y : Bool) → y ≡ false → (x && y) ≡ false
    and_false true y e = e
    and_false false y e = refl

ended_again : (word : List ℕ) → list_all is_kept word ≡ true → without_terminator (word ++ 10 ∷ []) ≡ word
ended_again word all =
    let text = word ++ 10 ∷ [] in
    let is : slice_index text (length text - 1) ≡ 10 = ap (slice_index text) (long_by_one word) ∙ last_is word in
    let ends : (slice_index text (length text - 1) == 10) ≡ true = grind (arith, nat_tests, is) in
    let some : nat_lt 0 (length text) ≡ true = let long = length-append word (10 ∷ []) in grind (arith, nat_tests, long) in
    ap (λ x. cond x (no_cr (take (length text - 1) text)) text) (and_true (nat_lt 0 (length text)) (slice_index text (length text - 1) == 10) some ends)
    ∙ ap (λ n. no_cr (take n text)) (long_by_one word) ∙ ap no_cr (front word) ∙ no_return word all

one_line : (word : List ℕ) → list_all is_kept word ≡ true → lines_of (word ++ 10 ∷ []) ≡ (word ++ 10 ∷ []) ∷ []
one_line word all =
    let long = length-append word (10 ∷ []) in
    lines-one (word ++ 10 ∷ []) (omega arith) (λ k within. none_before word k all (omega arith))

line_ends : (word : List ℕ) → EndsLine (word ++ 10 ∷ [])
line_ends word = inr (ap (slice_index (word ++ 10 ∷ [])) (long_by_one word) ∙ last_is word)

pub first_storable : (pair : List ℕ × List ℕ) (pairs : List (List ℕ × List ℕ)) → All IsStorable (pair ∷ pairs) → IsStorable pair
first_storable pair pairs all = all 0 pair (omega arith)

pub rest_storable : (pair : List ℕ × List ℕ) (pairs : List (List ℕ × List ℕ)) → All IsStorable (pair ∷ pairs) → All IsStorable pairs
rest_storable pair pairs all = λ k d within. all (suc k) d (omega arith)

-- the lines of pairs are a line for each
pub lines_again : (form : Form) (pairs : List (List ℕ × List ℕ)) → All IsStorable pairs → lines_in (pair_lines form pairs) ≡ map (pair_line form) pairs
lines_again form [] all = ap (map without_terminator) lines-nil
lines_again form (pair ∷ pairs) all =
    let word = pair_line form pair in
    let kept = line_kept form pair (first_storable pair pairs all) in
    ap (map without_terminator) (lines-append (length (word ++ 10 ∷ [])) (word ++ 10 ∷ []) (pair_lines form pairs) (omega arith) (line_ends word)
    ∙ ap (λ t. t ++ lines_of (pair_lines form pairs)) (one_line word kept))
    ∙ ap (λ t. t ∷ lines_in (pair_lines form pairs)) (ended_again word kept)
    ∙ ap (λ t. word ∷ t) (lines_again form pairs (rest_storable pair pairs all))
