-- A piece that was read is after what was left.
use Rattle.std.proofs.Common.{◌≡◌, ◌≤◌, ℕ, ◌+◌, List, ◌++◌, length, take, drop, Option, Some, None, sym, ap, ◌∙◌, append_assoc, arith}
use Rattle.std.specs.Io.KnownBytes.{Keeps, Consumes, prepend_known}
use Rattle.std.proofs.Math.Seq.{take-append-add}
use Rattle.std.proofs.lemmas.List.{take-append-le, drop-append-le, length-take-le, take-take}

-- the bytes in front of `filled`, and that many of the piece
behind_filled : (used filled count : ℕ) (front piece tail : List ℕ) → used ≤ filled → length front ≡ filled → count ≤ length piece → drop used (take (filled + count) (front ++ (piece ++ tail))) ≡ drop used front ++ take count piece
behind_filled used filled count front piece tail within len fits =
    let long : used ≤ length front = omega (arith, len, within) in
    ap (λ (n : ℕ). drop used (take (n + count) (front ++ (piece ++ tail)))) (sym len)
    ∙ ap (drop used) (take-append-add front (piece ++ tail) count)
    ∙ ap (λ (t : List ℕ). drop used (front ++ t)) (take-append-le count piece tail fits)
    ∙ drop-append-le used front (take count piece) long

keeps_piece : (was now : Option (List ℕ)) (left piece all : List ℕ) → all ≡ left ++ piece → Consumes was now piece → Keeps (prepend_known left was) (prepend_known all now)
keeps_piece None now left piece all is h = tt
keeps_piece (Some xs) None left piece all is h = absurd h
keeps_piece (Some xs) (Some ys) left piece all is h = ap (λ (t : List ℕ). t ++ ys) is ∙ append_assoc left piece ys ∙ ap (λ (t : List ℕ). left ++ t) (sym h)

pub keeps_read : (was now : Option (List ℕ)) (used filled count len : ℕ) (items front piece tail others left : List ℕ) → used ≤ filled → filled ≤ length items → count ≤ length piece → filled + count ≤ len → front ≡ take filled items → left ≡ drop used front → Consumes was now (take count piece) → Keeps (prepend_known left was) (prepend_known (drop used (take (filled + count) (take len ((front ++ (piece ++ tail)) ++ others)))) now)
keeps_read was now used filled count len items front piece tail others left within room fits in_len is_front is_left h =
    let same : length front ≡ filled = ap length is_front ∙ length-take-le filled items room in
    let all : drop used (take (filled + count) (take len ((front ++ (piece ++ tail)) ++ others))) ≡ drop used (take (filled + count) (front ++ (piece ++ (tail ++ others)))) =
    ap (drop used) (take-take (filled + count) len ((front ++ (piece ++ tail)) ++ others) in_len ∙ ap (take (filled + count)) (append_assoc front (piece ++ tail) others ∙ ap (λ (t : List ℕ). front ++ t) (append_assoc piece tail others))) in
    keeps_piece was now left (take count piece) _ (all ∙ behind_filled used filled count front piece (tail ++ others) within same fits ∙ ap (λ (t : List ℕ). t ++ take count piece) (sym is_left)) h
