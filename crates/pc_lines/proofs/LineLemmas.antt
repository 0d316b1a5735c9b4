-- Lines of other numbers of words.
use Rattle.std.proofs.Common.{◌≡◌, ℕ, ◌≤◌, false, List, [], ◌∷◌, length, take, refl, sym, ap, ◌∙◌, arith}
use Rattle.std.specs.Prelude.{if◌then◌else◌}
use Rattle.pc_lines.specs.declared.lines.Line.TheVariants.{Malformed, Silent}
use Rattle.pc_lines.specs.declared.lines.TheConstants.{MOST_WORDS}
use Rattle.pc_lines.specs.Lines.{is_comment, spelled, spelled_by, words_of}

pub many_words : (words : List (List ℕ)) → 5 ≤ length words → spelled_by words ≡ Malformed
many_words [] low = absurd (omega arith)
many_words (a ∷ []) low = absurd (omega arith)
many_words (a ∷ b ∷ []) low = absurd (omega arith)
many_words (a ∷ b ∷ c ∷ []) low = absurd (omega arith)
many_words (a ∷ b ∷ c ∷ d ∷ []) low = absurd (omega arith)
many_words (a ∷ b ∷ c ∷ d ∷ e ∷ words) low = refl

-- a line is determined by its first five words
pub first_tell : (words : List (List ℕ)) → spelled_by (take MOST_WORDS words) ≡ spelled_by words
first_tell [] = refl
first_tell (a ∷ []) = refl
first_tell (a ∷ b ∷ []) = refl
first_tell (a ∷ b ∷ c ∷ []) = refl
first_tell (a ∷ b ∷ c ∷ d ∷ []) = refl
first_tell (a ∷ b ∷ c ∷ d ∷ e ∷ words) = refl

-- what a line without a comment spells
pub spelled_words : (text : List ℕ) (first : List (List ℕ)) → is_comment text ≡ false → first ≡ take MOST_WORDS (words_of text) → spelled_by first ≡ spelled text
spelled_words text first h e = ap spelled_by e ∙ first_tell (words_of text) ∙ sym (ap (λ x. if x then Silent else spelled_by (words_of text)) h)
