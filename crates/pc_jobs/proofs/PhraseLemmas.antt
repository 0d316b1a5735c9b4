-- Lines of more words than any form has.
use Rattle.std.proofs.Common.{◌≡◌, ℕ, ◌≤◌, false, List, [], ◌∷◌, length, take, refl, sym, ap, ◌∙◌, arith}
use Rattle.std.specs.Prelude.{if◌then◌else◌}
use Rattle.pc_lines.specs.declared.lines.TheConstants.{MOST_WORDS}
use Rattle.pc_lines.specs.Lines.{is_comment, words_of}
use Rattle.pc_jobs.specs.declared.phrases.Phrase.TheVariants.{Malformed, Silent}
use Rattle.pc_jobs.specs.Phrases.{spelled_phrase, phrase_of_words}

pub many_words : (words : List (List ℕ)) → 5 ≤ length words → phrase_of_words words ≡ Malformed
many_words [] low = absurd (omega arith)
many_words (a ∷ []) low = absurd (omega arith)
many_words (a ∷ b ∷ []) low = absurd (omega arith)
many_words (a ∷ b ∷ c ∷ []) low = absurd (omega arith)
many_words (a ∷ b ∷ c ∷ d ∷ []) low = absurd (omega arith)
many_words (a ∷ b ∷ c ∷ d ∷ e ∷ words) low = refl

-- a line is determined by its first five words
first_tell : (words : List (List ℕ)) → phrase_of_words (take MOST_WORDS words) ≡ phrase_of_words words
first_tell [] = refl
first_tell (a ∷ []) = refl
first_tell (a ∷ b ∷ []) = refl
first_tell (a ∷ b ∷ c ∷ []) = refl
first_tell (a ∷ b ∷ c ∷ d ∷ []) = refl
first_tell (a ∷ b ∷ c ∷ d ∷ e ∷ words) = refl

-- what a line without a comment spells
pub spelled_words : (text : List ℕ) (first : List (List ℕ)) → is_comment text ≡ false → first ≡ take MOST_WORDS (words_of text) → phrase_of_words first ≡ spelled_phrase text
spelled_words text first h e = ap phrase_of_words e ∙ first_tell (words_of text) ∙ sym (ap (λ x. if x then Silent else phrase_of_words (words_of text)) h)
