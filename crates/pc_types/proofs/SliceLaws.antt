-- Pieces of a list, one after another.
use Rattle.std.proofs.Common.{◌≡◌, ◌≤◌, ◌+◌, ◌-◌, ℕ, List, ◌++◌, take, drop, sym, ap, ◌∙◌, arith}
use Rattle.std.specs.Prelude.{slice_range}
use Rattle.std.proofs.Math.Seq.{take-add}
use Rattle.std.proofs.lemmas.List.{take-append-drop, drop-drop}

-- some of a list, and then more of it
pub ranges : {X : Type 0} (xs : List X) (a b c : ℕ) → a ≤ b → b ≤ c → slice_range xs a b ++ slice_range xs b c ≡ slice_range xs a c
ranges xs a b c first next =
    let place : b ≡ a + (b - a) = omega (arith, first) in
    let both : c - a ≡ (b - a) + (c - b) = omega (arith, first, next) in
    ap (λ (ys : List _). slice_range xs a b ++ take (c - b) ys) (ap (λ (n : ℕ). drop n xs) place ∙ sym (drop-drop (b - a) a xs))
    ∙ (sym (take-add (b - a) (c - b) (drop a xs)) ∙ ap (λ (n : ℕ). take n (drop a xs)) (sym both))

-- and all that is left
pub to_end : {X : Type 0} (xs : List X) (a b : ℕ) → a ≤ b → drop a xs ≡ slice_range xs a b ++ drop b xs
to_end xs a b order =
    let place : a + (b - a) ≡ b = omega (arith, order) in
    sym (take-append-drop (b - a) (drop a xs)) ∙ ap (λ (ys : List _). slice_range xs a b ++ ys) (drop-drop (b - a) a xs ∙ ap (λ (n : ℕ). drop n xs) place)
