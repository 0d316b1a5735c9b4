-- One more text of a list went out.
use Rattle.std.proofs.Common.{◌≡◌, ℕ, ◌+◌, ◌<◌, List, [], ◌∷◌, ◌++◌, length, take, get_or, Option, Ok, ap, ◌∙◌}
use Rattle.std.specs.List.{flat_map}
use Rattle.std.proofs.lemmas.List.{take_more, append-nil}
use Rattle.std.proofs.lemmas.List.Concat.{flat_map-append}
use Rattle.std.specs.Io.KnownBytes.{Appends}
use Rattle.pc_io.specs.Tallies.{Puts}
use Rattle.pc_io.specs.declared.tally.Tally.{Tally}
use Rattle.pc_io.proofs.PutsLaws.{puts_then}

pub sent_more : {T X : Type 0} (contents : T → Option (List ℕ)) (f : X → List ℕ) (xs : List X) (i : ℕ) (d : X) (a b c : Tally T) → i < length xs
    → Appends (contents a.inner) (contents b.inner) (flat_map f (take i xs)) → b.failures ≡ a.failures
    → Puts contents b c (Ok tt) (f (get_or xs i d)) → Appends (contents a.inner) (contents c.inner) (flat_map f (take (i + 1) xs)) × (c.failures ≡ a.failures)
sent_more contents f xs i d a b c lt p counted q =
    let last = get_or xs i d in
    let one : take (i + 1) xs ≡ take i xs ++ last ∷ [] = take_more xs i d lt in
    let text : flat_map f (take (i + 1) xs) ≡ flat_map f (take i xs) ++ f last = ap (flat_map f) one ∙ flat_map-append f (take i xs) (last ∷ []) ∙ ap (λ (t : List ℕ). flat_map f (take i xs) ++ t) (append-nil (f last)) in
    rw text (puts_then contents a b c (Ok tt) (flat_map f (take i xs)) (f last) (p, counted) q)
