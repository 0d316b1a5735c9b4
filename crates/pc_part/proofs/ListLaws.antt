-- Laws of lists that parts and bases share.
use Rattle.std.proofs.Common.{◌≡◌, ℕ, suc, ◌<◌, List, [], ◌∷◌, ◌++◌, length, Some, refl, arith, inl, inr}
use Rattle.std.specs.Prelude.{slice_get}
use Rattle.std.specs.List.{All, AllByRecursion}
use Rattle.std.proofs.lemmas.Bool.{cases_lt}
use Rattle.std.proofs.lemmas.List.{get_or_past}
use Rattle.pc_types.specs.Bytes.{IsBytes}

-- what holds of each element, by recursion
pub by_recursion : {X : Type 0} (P : X → Type 0) (xs : List X) → All P xs → AllByRecursion P xs
by_recursion P [] h = tt
by_recursion P (x ∷ xs) h = (h 0 x (omega arith), by_recursion P xs (λ k d lt. h (suc k) d (omega (arith, lt))))

-- the last of a list is the element that was added
pub added_last : {X : Type 0} (xs : List X) (x : X) → slice_get (xs ++ x ∷ []) (length xs) ≡ Some x
added_last [] x = refl
added_last (y ∷ ys) x = added_last ys x

-- bytes in a list
pub all_bytes : (bytes : List ℕ) → All (λ byte. byte < 256) bytes → IsBytes bytes
all_bytes bytes h i = elim (cases_lt i (length bytes)) [
  | inl lt ↦ h i 0 lt
  | inr le ↦ rw (get_or_past bytes i 0 le) (omega arith)
]
