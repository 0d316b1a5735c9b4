-- Histories that grow, each in its place.
use Rattle.std.proofs.Common.{◌≡◌, ◌≢◌, ℕ, zero, suc, ◌∷◌, ◌+◌, ◌<◌, List, [], length, get_or, set, refl, ap, sym, ◌∙◌, subst, arith, ⊎_elim}
use Rattle.std.proofs.lemmas.Bool.{cases_eq}
use Rattle.std.proofs.lemmas.List.{length-set, get_or-set_same, get_or-set_other}
use Rattle.pc_model.specs.History.{History}
use Rattle.pc_model.specs.Files.{File}
use Rattle.pc_model.specs.Replies.{Setting}
use Rattle.pc_model.specs.Calls.{IsBeginning}
use Rattle.pc_model.proofs.BeginningLaws.{beginning_self, beginning_trans}
use Rattle.pc_latch.specs.Tickets.{IsFileWorth, HaveGrown}

pub grown_self : (hs : List History) → HaveGrown hs hs
grown_self hs = (refl, λ k d lt. beginning_self (get_or hs k d))

-- one of them grows
pub grown_set : (old new : List History) (i : ℕ) (h : History) → HaveGrown old new → i < length new → ((d : History) → IsBeginning (get_or new i d) h) → HaveGrown old (set new i h)
grown_set old new i h g lt more = (length-set new i h ∙ g.0, at)
  where
    at : (k : ℕ) (d : History) → k < length old → IsBeginning (get_or old k d) (get_or (set new i h) k d)
    at k d within =
        ⊎_elim
        (λ (e : k ≡ i). subst (λ (c : History). IsBeginning (get_or old k d) c) (sym (ap (λ (n : ℕ). get_or (set new i h) n d) e ∙ get_or-set_same new i h d lt))
        (beginning_trans (get_or old k d) (get_or new k d) h (g.1 k d within) (subst (λ (n : ℕ). IsBeginning (get_or new n d) h) (sym e) (more d))))
        (λ (e : k ≢ i). subst (λ (c : History). IsBeginning (get_or old k d) c) (sym (get_or-set_other new i k h d e)) (g.1 k d within))
        (cases_eq k i)

-- the file is still that of its points
pub worth_grown : (st : Setting) (old new : List History) (file : File) → HaveGrown old new → IsFileWorth st old file → IsFileWorth st new file
worth_grown st old new file g worth h legal begins =
    worth h legal (λ k d lt. beginning_trans (get_or old k d) (get_or new k d) h (g.1 k d lt) (begins k d (let e = g.0 in omega (arith, e, lt))))

pub same_at : {X : Type 0} (xs : List X) (k : ℕ) (d e : X) → k < length xs → get_or xs k d ≡ get_or xs k e
same_at [] k d e lt = absurd (omega arith)
same_at (x ∷ xs) zero d e lt = refl
same_at (x ∷ xs) (suc k) d e lt = same_at xs k d e (omega arith)

-- of one more, the history that had been seen is known
pub told_more : (old new : List History) (k : ℕ) (hist : History) → HaveGrown old new → k < length old → ((d : History) → IsBeginning (get_or new k d) hist)
    → ((j : ℕ) (d : History) → j < k → IsBeginning (get_or old j d) hist) → (j : ℕ) (d : History) → j < k + 1 → IsBeginning (get_or old j d) hist
told_more old new k hist g within now before j d lt =
    ⊎_elim
    (λ (e : j ≡ k). subst (λ (n : ℕ). IsBeginning (get_or old n d) hist) (sym e) (beginning_trans (get_or old k d) (get_or new k d) hist (g.1 k d within) (now d)))
    (λ (e : j ≢ k). before j d (omega (arith, lt, e)))
    (cases_eq j k)
