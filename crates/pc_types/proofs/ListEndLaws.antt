-- The last item of a list.
use Rattle.std.proofs.Common.{◌≡◌, ◌⊎◌, List, [], ◌∷◌, ◌++◌, refl, inl, inr, ⊎_elim}

-- an item of a list that is one longer is the last one, or one of the shorter list's
pub at_end : {C : Type 0} (log : List C) (c : C) (before : List C) (d : C) (behind : List C) → log ++ c ∷ [] ≡ before ++ d ∷ behind
    → ((log ≡ before) × (c ≡ d)) ⊎ ((rest : List C) × (log ≡ before ++ d ∷ rest))
at_end [] c [] d behind e = inl (refl, cc (e))
at_end [] c (x ∷ []) d behind e = absurd (cc (e))
at_end [] c (x ∷ y ∷ ys) d behind e = absurd (cc (e))
at_end (y ∷ ys) c [] d behind e = inr (ys, cc (e))
at_end (y ∷ ys) c (x ∷ xs) d behind e =
    let same : y ≡ x = cc (e) in
    let tails : ys ++ c ∷ [] ≡ xs ++ d ∷ behind = cc (e) in
    ⊎_elim (λ (t : (ys ≡ xs) × (c ≡ d)). inl (cc (same, t.0), t.1)) (λ (t : (rest : List _) × (ys ≡ xs ++ d ∷ rest)). inr (t.0, cc (same, t.1))) (at_end ys c xs d behind tails)
