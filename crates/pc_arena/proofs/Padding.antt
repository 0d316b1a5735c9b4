-- Lists of which the rest is None.
use Rattle.std.proofs.Common.{◌≡◌, ℕ, zero, suc, ◌+◌, ◌<◌, List, [], ◌∷◌, ◌++◌, length, replicate, set, Option, Some, None, false, refl, ap, ◌∙◌}
use Rattle.std.proofs.lemmas.List.{length-append, length-replicate, set-append_left}
use Rattle.pc_chain.specs.Slots.{at, is_full}
use Rattle.pc_arena.specs.Cells.{padded}

pub bare : {X : Type 0} (n i : ℕ) → at (replicate {A = Option X} n None) i ≡ None
bare zero i = refl
bare (suc n) zero = refl
bare (suc n) (suc i) = bare n i

module _ {X : Type 0} where
  -- what is at a place is the same
  pub at_padded : (n : ℕ) (xs : List (Option X)) (i : ℕ) → at (padded n xs) i ≡ at xs i
  at_padded n [] i = bare n i
  at_padded n (x ∷ xs) zero = refl
  at_padded n (x ∷ xs) (suc i) = at_padded n xs i

  pub length_padded : (n : ℕ) (xs : List (Option X)) → length (padded n xs) ≡ length xs + n
  length_padded n xs = length-append xs (replicate n None) ∙ ap (λ k. length xs + k) (length-replicate n None)

  pub set_padded : (n : ℕ) (xs : List (Option X)) (i : ℕ) (v : Option X) → i < length xs → set (padded n xs) i v ≡ padded n (set xs i v)
  set_padded n xs i v h = set-append_left xs (replicate n None) i v h

  -- one more at the end takes the place of one that was None
  pub padded_set : (n : ℕ) (xs : List (Option X)) (v : Option X) → set (padded (suc n) xs) (length xs) v ≡ padded n (xs ++ v ∷ [])
  padded_set n [] v = refl
  padded_set n (x ∷ xs) v = ap (λ ys. x ∷ ys) (padded_set n xs v)

  pub padded_push : (n : ℕ) (xs : List (Option X)) → padded (suc n) xs ≡ padded n (xs ++ None ∷ [])
  padded_push n [] = refl
  padded_push n (x ∷ xs) = ap (λ ys. x ∷ ys) (padded_push n xs)

  -- with none after it, the list is itself
  pub padded_none : (xs : List (Option X)) → padded 0 xs ≡ xs
  padded_none [] = refl
  padded_none (x ∷ xs) = ap (λ ys. x ∷ ys) (padded_none xs)

  -- a list that has None after it isn't full
  pub padded_not_full : (n : ℕ) (xs : List (Option X)) → is_full (padded (suc n) xs) ≡ false
  padded_not_full n [] = refl
  padded_not_full n (None ∷ xs) = refl
  padded_not_full n (Some x ∷ xs) = padded_not_full n xs
