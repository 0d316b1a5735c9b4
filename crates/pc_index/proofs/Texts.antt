-- Keys that have the same bytes.
use Rattle.std.proofs.Common.{◌≡◌, ℕ, List, Bool, true, refl}
use Rattle.std.specs.declared.cmp.Ordering.{Ordering}
use Rattle.std.specs.declared.cmp.Ordering.TheVariants.{Less, Equal, Greater}
use Rattle.std.specs.Ordering.{nat_cmp, eq_by_cmp, is_eq}
use Rattle.std.specs.Cmp.Lexicographic.{slice_cmp, nat_list_cmp_total}
use Rattle.std.specs.FinMap.{slice_cmp-IsAntisymmetric, nat_cmp-IsAntisymmetric}
use Rattle.std.proofs.lemmas.Cmp.{eq_by_cmp_equiv}

is_equal : (o : Ordering) → is_eq o ≡ true → o ≡ Equal
is_equal Less e = absurd cc
is_equal Equal e = refl
is_equal Greater e = absurd cc

abbrev pub same_text : List ℕ → List ℕ → Bool
same_text k l = eq_by_cmp (slice_cmp nat_cmp) k l

pub one_text : (k l : List ℕ) → same_text k l ≡ true → k ≡ l
one_text k l e = slice_cmp-IsAntisymmetric nat_cmp-IsAntisymmetric k l (is_equal (slice_cmp nat_cmp k l) e)

pub own_text : (k : List ℕ) → same_text k k ≡ true
own_text k = (eq_by_cmp_equiv nat_list_cmp_total).refl k
