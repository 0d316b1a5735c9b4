-- The first five words of a line tell what is wrong with it.
use Rattle.std.proofs.Common.{◌≡◌, ℕ, false, List, [], ◌∷◌, take, refl, sym, ap, ◌∙◌}
use Rattle.std.specs.Prelude.{None, if◌then◌else◌}
use Rattle.pc_lines.specs.declared.lines.TheConstants.{MOST_WORDS}
use Rattle.pc_lines.specs.Lines.{is_comment, words_of}
use Rattle.pc_reasons.specs.LineFaults.{reported_fault}
use Rattle.pc_reasons.specs.Scripts.{script_fault, words_fault}
use Rattle.pc_reasons.specs.Workloads.{role_of, told_role, words_role}
use Rattle.pc_reasons.specs.declared.workloads.LineRole.TheVariants.{Silent}

first_fault : (words : List (List ℕ)) → words_fault (take MOST_WORDS words) ≡ words_fault words
first_fault [] = refl
first_fault (a ∷ []) = refl
first_fault (a ∷ b ∷ []) = refl
first_fault (a ∷ b ∷ c ∷ []) = refl
first_fault (a ∷ b ∷ c ∷ d ∷ []) = refl
first_fault (a ∷ b ∷ c ∷ d ∷ e ∷ words) = refl

first_role : (words : List (List ℕ)) → words_role (take MOST_WORDS words) ≡ words_role words
first_role [] = refl
first_role (a ∷ []) = refl
first_role (a ∷ b ∷ []) = refl
first_role (a ∷ b ∷ c ∷ []) = refl
first_role (a ∷ b ∷ c ∷ d ∷ []) = refl
first_role (a ∷ b ∷ c ∷ d ∷ e ∷ words) = refl

-- what is wrong with a line without a comment
pub fault_of_first : (text : List ℕ) (first : List (List ℕ)) → is_comment text ≡ false → first ≡ take MOST_WORDS (words_of text) → reported_fault text (words_fault first) ≡ script_fault text
fault_of_first text first h e = ap (λ words. reported_fault text (words_fault words)) e ∙ ap (reported_fault text) (first_fault (words_of text)) ∙ sym (ap (λ x. if x then None else reported_fault text (words_fault (words_of text))) h)

-- what a line without a comment is
pub role_of_first : (text : List ℕ) (first : List (List ℕ)) → is_comment text ≡ false → first ≡ take MOST_WORDS (words_of text) → told_role text (words_role first) ≡ role_of text
role_of_first text first h e = ap (λ words. told_role text (words_role words)) e ∙ ap (told_role text) (first_role (words_of text)) ∙ sym (ap (λ x. if x then Silent else told_role text (words_role (words_of text))) h)
