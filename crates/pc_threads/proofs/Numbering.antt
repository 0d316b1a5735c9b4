-- Things that are numbered from 0.
use Rattle.std.proofs.Common.{◌≡◌, ℕ, suc, List, [], ◌∷◌, ◌++◌, length, length-append, map, ap, sym, ◌∙◌, arith}
use Rattle.std.proofs.lemmas.List.{map-append}
use Rattle.pc_threads.specs.Hands.{first_numbers}

-- one more, whose number is how many there were
pub numbered_on : {A : Type 0} (number : A → ℕ) (xs ys : List A) (x : A) → ys ≡ xs ++ x ∷ [] → map number xs ≡ first_numbers (length xs) → number x ≡ length xs → map number ys ≡ first_numbers (length ys)
numbered_on number xs ys x is all next =
    let len : length ys ≡ suc (length xs) = omega (arith, ap length is, length-append xs (x ∷ [])) in
    ap (map number) is ∙ (map-append number xs (x ∷ []) ∙ ((λ i. all i ++ next i ∷ []) ∙ ap first_numbers (sym len)))
