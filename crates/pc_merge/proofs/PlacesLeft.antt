-- The number of places that have an entry of a key.
use Rattle.std.proofs.Common.{◌≡◌, ℕ, zero, suc, ◌+◌, ◌<◌, Bool, cond, List, [], ◌∷◌, Option, Some, None, set, refl, sym, ap, ◌∙◌, arith}
use Rattle.std.proofs.lemmas.Cmp.{eq_by_cmp_equiv}
use Rattle.pc_types.specs.declared.Triple.{Triple}
use Rattle.pc_model.specs.Database.{key_order, same_bytes}
use Rattle.pc_merge.specs.Drawing.{has_key}
use Rattle.pc_merge.specs.Merging.{IsBelow}
use Rattle.pc_merge.specs.Tournaments.{first_entry_at}
use Rattle.pc_merge.proofs.PassingLaws.{other_key}

-- 1 for an entry of the key
abbrev pub one_if : List ℕ → Option Triple → ℕ
one_if key first = cond (has_key key first) 1 0

abbrev pub having : List ℕ → List (Option Triple) → ℕ
having key [] = 0
having key (first ∷ firsts) = one_if key first + having key firsts

own_counts : (key : List ℕ) (entry : Triple) → entry.key ≡ key → one_if key (Some entry) ≡ 1
own_counts key entry is = ap (λ (b : Bool). cond b 1 0) (ap (same_bytes entry.key) (sym is) ∙ (eq_by_cmp_equiv key_order.total).refl entry.key)

greater_counts : (key : List ℕ) (next : Option Triple) → IsBelow key next → one_if key next ≡ 0
greater_counts key None below = refl
greater_counts key (Some next) below = ap (λ (b : Bool). cond b 1 0) (other_key key next.key below)

-- there are fewer if a greater key comes in its place
pub having_less : (key : List ℕ) (firsts : List (Option Triple)) (place : ℕ) (entry : Triple) (next : Option Triple) → first_entry_at firsts place ≡ Some entry → entry.key ≡ key → IsBelow key next → having key (set firsts place next) < having key firsts
having_less key [] place entry next there is below = cc
having_less key (first ∷ firsts) zero entry next there is below =
    let one = ap (one_if key) there ∙ own_counts key entry is in
    let none = greater_counts key next below in
    omega (arith, one, none)
having_less key (first ∷ firsts) (suc place) entry next there is below =
    let rest = having_less key firsts place entry next there is below in
    omega (arith, rest)
