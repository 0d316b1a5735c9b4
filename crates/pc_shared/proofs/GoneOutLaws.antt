-- The entries that have gone out.
use Rattle.std.proofs.Common.{◌≡◌, ℕ, zero, suc, ◌≤◌, List, [], ◌∷◌, ◌++◌, length, take, refl, sym, ap, ◌∙◌, append_assoc, arith}
use mathlib.Core.List.{IsPrefix}
use Rattle.pc_types.specs.declared.Entry.{Entry}
use Rattle.pc_model.specs.History.{History, log_of}
use Rattle.pc_model.proofs.BeginningLaws.{logs_grow}
use Rattle.pc_tie.specs.Rules.{AreOfOne}
use Rattle.pc_shared.specs.Written.{AreOut, IsFirstOut}

-- of two beginnings of one list the first ones of the one are the first of the other, if that has as many
first_of_both : {X : Type 0} (number : ℕ) (xs ys a b : List X) → xs ++ a ≡ ys ++ b → number ≤ length ys → IsPrefix (take number xs) ys
first_of_both zero xs ys a b e order = (ys, refl)
first_of_both (suc n) [] ys a b e order = (ys, refl)
first_of_both (suc n) (x ∷ xs) [] a b e order = absurd (omega (arith, order))
first_of_both (suc n) (x ∷ xs) (y ∷ ys) a b e order =
    let same : x ≡ y = head_is x y (xs ++ a) (ys ++ b) e in
    let more = first_of_both n xs ys a b (tail_is x y (xs ++ a) (ys ++ b) e) (omega (arith, order)) in
    (more.0, (λ i. same i ∷ more.1 i))
  where
    head_is : {X : Type 0} (x y : X) (xs ys : List X) → x ∷ xs ≡ y ∷ ys → x ≡ y
    head_is x y xs ys e = cc (e)

    tail_is : {X : Type 0} (x y : X) (xs ys : List X) → x ∷ xs ≡ y ∷ ys → xs ≡ ys
    tail_is x y xs ys e = cc (e)

-- the entries that have gone out, by a witness, are those of the log that a session has seen
pub out_by : (out : List ℕ → Type 0) (run : ℕ) (seen other : History) (count number : ℕ) → AreOfOne seen other → (1 ≤ count → IsFirstOut out run other count) → number ≤ count → AreOut out run seen number
out_by out run seen other count number one gone order some =
    let f = gone (omega (arith, some, order)) in
    let mine = logs_grow seen one.0 one.1 in
    let theirs = logs_grow other one.0 one.2 in
    let rest = f.first.0 in
    let all : log_of seen ++ mine.0 ≡ f.entries ++ (rest ++ theirs.0) = sym mine.1 ∙ (theirs.1 ∙ (ap (λ (l : List Entry). l ++ theirs.0) (sym f.first.1) ∙ append_assoc f.entries rest theirs.0)) in
    record { entries = f.entries; begins = first_of_both number (log_of seen) f.entries mine.0 (rest ++ theirs.0) all (omega (arith, order, f.as_many)); gone = f.gone }
