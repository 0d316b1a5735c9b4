-- A text that goes out in parts.
use Rattle.std.proofs.Common.{◌≡◌, ℕ, ◌+◌, ◌<◌, List, [], ◌∷◌, ◌++◌, length, take, get_or, Option, Result, Ok, Err, append_assoc, ap, sym, ◌∙◌}
use Rattle.std.specs.List.{flat_map}
use Rattle.std.proofs.lemmas.List.{take_more, append-nil}
use Rattle.std.proofs.lemmas.List.Concat.{flat_map-append}
use Rattle.std.specs.Io.KnownBytes.{Appends}
use Rattle.pc_io.specs.Tallies.{Puts}
use Rattle.pc_io.specs.declared.tally.Tally.{Tally}
use Rattle.pc_types.specs.declared.refusal.Refusal.{Refusal}
use Rattle.pc_io.proofs.PutsLaws.{puts_then, puts_stop}

module _ {T : Type 0} (contents : T → Option (List ℕ)) where
  -- a part after what went out before it
  pub sent_then : (a b c : Tally T) (r : Result (Unit {0}) Refusal) (text part whole : List ℕ) → Appends (contents a.inner) (contents b.inner) text → b.failures ≡ a.failures
      → Puts contents b c r part → text ++ part ≡ whole → Puts contents a c r whole
  sent_then a b c r text part whole p counted q e = rw (← e) (puts_then contents a b c r text part (p, counted) q)

  -- a part that didn't go out whole
  pub sent_stop : (a b c : Tally T) (why : Refusal) (text part rest whole : List ℕ) → Appends (contents a.inner) (contents b.inner) text → b.failures ≡ a.failures
      → Puts contents b c (Err why) part → text ++ (part ++ rest) ≡ whole → Puts contents a c (Err why) whole
  sent_stop a b c why text part rest whole p counted q e =
      let all = append_assoc text part rest ∙ e in
      rw (← all) (puts_stop contents a c why (text ++ part) rest (puts_then contents a b c (Err why) text part (p, counted) q))

  -- one more text of a list went out
  pub sent_more : {X : Type 0} (f : X → List ℕ) (xs : List X) (i : ℕ) (e : X) (a b c : Tally T) → i < length xs → e ≡ get_or xs i e → Appends (contents a.inner) (contents b.inner) (flat_map f (take i xs)) → b.failures ≡ a.failures
      → Puts contents b c (Ok tt) (f e) → Appends (contents a.inner) (contents c.inner) (flat_map f (take (i + 1) xs)) × (c.failures ≡ a.failures)
  sent_more f xs i e a b c lt is p counted q =
      let one : take (i + 1) xs ≡ take i xs ++ e ∷ [] = take_more xs i e lt ∙ ap (λ x. take i xs ++ x ∷ []) (sym is) in
      let text : flat_map f (take (i + 1) xs) ≡ flat_map f (take i xs) ++ f e = ap (flat_map f) one ∙ flat_map-append f (take i xs) (e ∷ []) ∙ ap (λ (t : List ℕ). flat_map f (take i xs) ++ t) (append-nil (f e)) in
      rw text (puts_then contents a b c (Ok tt) (flat_map f (take i xs)) (f e) (p, counted) q)
