-- One thing made anew in its place.
use Rattle.std.proofs.Common.{◌≡◌, List, [], ◌∷◌, length, slice_set, refl, arith}

-- a list of one item has another one in its place
pub set_only : {T : Type 0} (items : List T) (item : T) → length items ≡ 1 → slice_set items 0 item ≡ item ∷ []
set_only [] item one = absurd (omega (arith, one))
set_only (first ∷ []) item one = refl
set_only (first ∷ second ∷ rest) item one = absurd (omega (arith, one))
