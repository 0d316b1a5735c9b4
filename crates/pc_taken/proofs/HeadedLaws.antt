-- Keys with their heads.
use Rattle.std.proofs.Common.{◌≡◌, ◌≢◌, ℕ, List, sym, ◌∙◌}
use Rattle.std.specs.Ordering.{nat_cmp}
use Rattle.std.specs.Cmp.Lexicographic.{slice_cmp}
use Rattle.std.specs.FinMap.{nat_cmp-IsAntisymmetric}
use Rattle.pc_types.proofs.HeadLaws.{by_heads}
use Rattle.pc_taken.specs.Heads.{IsHeadOf}

-- keys are ordered as heads that differ
pub by_numbers : (n m : ℕ) (key other : List ℕ) → IsHeadOf n key → IsHeadOf m other → n ≢ m → nat_cmp n m ≡ slice_cmp nat_cmp key other
by_numbers n m key other first second apart =
    (λ t. nat_cmp (first.is t) (second.is t))
    ∙ sym (by_heads key other first.bytes second.bytes (λ same. apart (first.is ∙ nat_cmp-IsAntisymmetric _ _ same ∙ sym second.is)))
