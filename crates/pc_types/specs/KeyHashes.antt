-- The input of a key's hash: its bytes, in one write.
use Rattle.std.specs.Prelude.{◌≡◌, ℕ, List, [], ◌∷◌, IsTrue}
use Rattle.std.specs.Ordering.{nat_cmp, eq_by_cmp}
use Rattle.std.specs.Cmp.{Equal-is}
use Rattle.std.specs.Cmp.Lexicographic.{slice_cmp}
use Rattle.std.specs.FinMap.{slice_cmp-IsAntisymmetric, nat_cmp-IsAntisymmetric}

-- keys that are the same feed the same
pub same_input : (key other : List ℕ) → IsTrue (eq_by_cmp (slice_cmp nat_cmp) key other) → key ∷ [] ≡ other ∷ []
same_input key other same = (λ i. slice_cmp-IsAntisymmetric nat_cmp-IsAntisymmetric key other ((Equal-is (slice_cmp nat_cmp key other)).0 same) i ∷ [])
