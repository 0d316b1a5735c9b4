-- The first word of a text, and the rest after it.
use Rattle.std.proofs.Common.{◌≡◌, ℕ, ◌+◌, ◌-◌, ◌<◌, ◌==◌, Bool, true, false, not, List, [], ◌∷◌, ◌++◌, length, take, drop, refl, sym, ap, subst, ◌∙◌, arith}
use Rattle.std.specs.Prelude.{filter, nat_lt, cond, suc, Some, None}
use Rattle.std.specs.List.{slice_split, position, position_or_len, before_first, after_first}
use Rattle.std.proofs.lemmas.Bool.Decides.{nat_tests}
use Rattle.std.proofs.lemmas.Grind.{common_steps}
use Rattle.std.proofs.lemmas.List.{length-take, take_rest}
use Rattle.std.proofs.lemmas.List.Sums.{prefix_len-le-length, fails_before_first}
use Rattle.std.proofs.lemmas.List.Splits.{slice_split-cons_yes, slice_split_none, slice_split_first}
use Rattle.pc_lines.specs.Lines.{words_of}

abbrev pub is_space : ℕ → Bool
is_space b = b == 32

abbrev pub is_other : ℕ → Bool
is_other b = not (b == 32)

abbrev with_bytes : List (List ℕ) → List (List ℕ)
with_bytes = filter (λ word. nat_lt 0 (length word))

-- if a byte passes, its place is returned
pub found_at : (p : ℕ → Bool) (text : List ℕ) (at : ℕ) → position p text ≡ Some at → at ≡ position_or_len p text
found_at p text at e = grind (arith, common_steps)

-- if none does, the length is
pub found_none : (p : ℕ → Bool) (text : List ℕ) → position p text ≡ None → length text ≡ position_or_len p text
found_none p text e =
    let within = prefix_len-le-length (λ b. not (p b)) text in
    grind (arith, common_steps)

dropped : (b : ℕ) (text : List ℕ) (n : ℕ) → drop (1 + n) (b ∷ text) ≡ drop n text
dropped b text n = let e : 1 + n ≡ suc n = omega arith in ap (λ k. drop k (b ∷ text)) e

-- spaces in front of a text are no part of its words
pub behind_spaces : (text : List ℕ) → words_of text ≡ words_of (drop (position_or_len is_other text) text)
behind_spaces [] = refl
behind_spaces (b ∷ text) = by (b == 32) refl (behind_spaces text)
  where
    by : (x : Bool) → (b == 32) ≡ x → words_of text ≡ words_of (drop (position_or_len is_other text) text)
        → words_of (b ∷ text) ≡ words_of (drop (position_or_len is_other (b ∷ text)) (b ∷ text))
    by true e rest =
        ap with_bytes (slice_split-cons_yes is_space b text e)
        ∙ rest
        ∙ ap words_of (sym (dropped b text (position_or_len is_other text)))
        ∙ sym (ap (λ x. words_of (drop (cond (not (not x)) (1 + position_or_len is_other text) 0) (b ∷ text))) e)
    by false e rest = sym (ap (λ x. words_of (drop (cond (not (not x)) (1 + position_or_len is_other text) 0) (b ∷ text))) e)

-- after the spaces a word begins
pub word_begins : (text : List ℕ) → 0 < length (drop (position_or_len is_other text) text) → 0 < position_or_len is_space (drop (position_or_len is_other text) text)
word_begins [] some = absurd (omega arith)
word_begins (b ∷ text) some = by (b == 32) refl (word_begins text) some
  where
    by : (x : Bool) → (b == 32) ≡ x → (0 < length (drop (position_or_len is_other text) text) → 0 < position_or_len is_space (drop (position_or_len is_other text) text))
        → 0 < length (drop (position_or_len is_other (b ∷ text)) (b ∷ text)) → 0 < position_or_len is_space (drop (position_or_len is_other (b ∷ text)) (b ∷ text))
    by true e rest =
        let at : position_or_len is_other (b ∷ text) ≡ 1 + position_or_len is_other text = ap (λ x. cond (not (not x)) (1 + position_or_len is_other text) 0) e in
        subst (λ n. 0 < length (drop n (b ∷ text)) → 0 < position_or_len is_space (drop n (b ∷ text))) (sym at)
        (subst (λ t. 0 < length t → 0 < position_or_len is_space t) (sym (dropped b text (position_or_len is_other text))) rest)
    by false e rest =
        let at : position_or_len is_other (b ∷ text) ≡ 0 = ap (λ x. cond (not (not x)) (1 + position_or_len is_other text) 0) e in
        let first : position_or_len is_space (b ∷ text) ≡ 1 + position_or_len is_space text = ap (λ x. cond (not x) (1 + position_or_len is_space text) 0) e in
        subst (λ n. 0 < length (drop n (b ∷ text)) → 0 < position_or_len is_space (drop n (b ∷ text))) (sym at) (λ some. omega (arith, first))

kept : (word : List ℕ) (words : List (List ℕ)) → 0 < length word → with_bytes (word ∷ words) ≡ word ∷ with_bytes words
kept word words some =
    let has : nat_lt 0 (length word) ≡ true = grind (arith, nat_tests) in
    ap (λ x. cond x (word ∷ with_bytes words) (with_bytes words)) has

-- a text that begins with a word, after which comes a space
pub word_ends : (text : List ℕ) → 0 < position_or_len is_space text → position_or_len is_space text < length text
    → words_of text ≡ take (position_or_len is_space text) text ∷ words_of (drop (position_or_len is_space text + 1) text)
word_ends text some within =
    ap with_bytes (slice_split_first is_space text 0 within)
    ∙ kept (before_first is_space text) (slice_split is_space (after_first is_space text)) (omega (arith, length-take (position_or_len is_space text) text))

-- and one that has no space
pub word_alone : (text : List ℕ) → 0 < length text → length text ≡ position_or_len is_space text → words_of text ≡ text ∷ []
word_alone text some whole =
    ap with_bytes (slice_split_none is_space text (λ k d l. fails_before_first is_space text k d (omega (arith, whole))))
    ∙ kept text [] some

-- The rest of a text, as it is truncated after a place.
abbrev pub behind : ℕ → List ℕ → List ℕ
behind at text = take (length text - at) (drop at text)

same_words : (text : List ℕ) (at : ℕ) → at ≡ position_or_len is_other text → words_of text ≡ words_of (behind at text)
same_words text at place = behind_spaces text ∙ ap (λ n. words_of (drop n text)) (sym place) ∙ ap words_of (sym (take_rest text at))

begins_with_word : (text : List ℕ) (at : ℕ) → at ≡ position_or_len is_other text → 0 < length (behind at text) → 0 < position_or_len is_space (behind at text)
begins_with_word text at place some =
    subst (λ t. 0 < length t → 0 < position_or_len is_space t) (ap (λ n. drop n text) (sym place) ∙ sym (take_rest text at)) (word_begins text) some

-- nothing comes after the spaces
pub no_word : (text : List ℕ) (at : ℕ) → at ≡ position_or_len is_other text → length (behind at text) ≡ 0 → words_of text ≡ []
no_word text at place none = same_words text at place ∙ ap words_of (empty (behind at text) none)
  where
    empty : (t : List ℕ) → length t ≡ 0 → t ≡ []
    empty [] e = refl
    empty (b ∷ t) e = absurd (omega (arith, e))

-- a word is there, and no space after it
pub lone_word : (text : List ℕ) (at end : ℕ) → at ≡ position_or_len is_other text → end ≡ position_or_len is_space (behind at text)
    → 0 < length (behind at text) → end ≡ length (behind at text) → words_of text ≡ behind at text ∷ words_of (behind end (behind at text))
lone_word text at end place place_end some whole =
    same_words text at place ∙ word_alone (behind at text) some (sym whole ∙ place_end)
    ∙ ap (λ t. behind at text ∷ words_of t) (none (behind at text) end whole)
  where
    none : (t : List ℕ) (n : ℕ) → n ≡ length t → [] ≡ behind n t
    none t n e = let zero : length t - n ≡ 0 = omega (arith, e) in sym (ap (λ k. take k (drop n t)) zero)

-- a word is there, and a space after it
pub word_before : (text : List ℕ) (at end : ℕ) → at ≡ position_or_len is_other text → end ≡ position_or_len is_space (behind at text)
    → 0 < length (behind at text) → end < length (behind at text) → words_of text ≡ take end (behind at text) ∷ words_of (behind (end + 1) (behind at text))
word_before text at end place place_end some within =
    same_words text at place
    ∙ word_ends (behind at text) (begins_with_word text at place some) (subst (λ n. n < length (behind at text)) place_end within)
    ∙ ap (λ n. take n (behind at text) ∷ words_of (drop (n + 1) (behind at text))) (sym place_end)
    ∙ ap (λ t. take end (behind at text) ∷ words_of t) (sym (take_rest (behind at text) (end + 1)))

whole : (xs ys : List (List ℕ)) → take (length xs) (xs ++ ys) ≡ xs
whole [] ys = refl
whole (x ∷ xs) ys = ap (λ t. x ∷ t) (whole xs ys)

-- the first words of a list of words are those at its front
pub first_are : (n : ℕ) (words text rest : List (List ℕ)) → text ≡ words ++ rest → length words ≡ n → words ≡ take n text
first_are n words text rest e size = sym (ap (take n) e ∙ subst (λ k. take k (words ++ rest) ≡ words) size (whole words rest))
