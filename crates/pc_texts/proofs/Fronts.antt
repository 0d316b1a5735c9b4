-- The texts of a list go out in pieces, each of the first of those that are left.
use Rattle.std.proofs.Common.{◌≡◌, ℕ, List, ◌++◌, take, drop, Option, Ok, Err, append_assoc, ap, sym, ◌∙◌}
use Rattle.std.specs.List.{flat_map}
use Rattle.std.proofs.lemmas.List.{take-append-drop}
use Rattle.std.proofs.lemmas.List.Concat.{flat_map-append}
use Rattle.std.specs.Io.KnownBytes.{Appends}
use Rattle.pc_io.specs.Tallies.{Puts}
use Rattle.pc_io.specs.declared.tally.Tally.{Tally}
use Rattle.pc_types.specs.declared.refusal.Refusal.{Refusal}
use Rattle.pc_io.proofs.KnownBytesLaws.{appends_then}
use Rattle.pc_texts.proofs.SentLaws.{sent_stop}

module _ {X : Type 0} (f : X → List ℕ) (xs : List X) (n : ℕ) (text whole : List ℕ) where
  -- what is left, as the first ones and the others
  front_parts : text ++ flat_map f xs ≡ whole → text ++ (flat_map f (take n xs) ++ flat_map f (drop n xs)) ≡ whole
  front_parts e = ap (λ (t : List ℕ). text ++ t) (sym (flat_map-append f (take n xs) (drop n xs)) ∙ ap (flat_map f) (take-append-drop n xs)) ∙ e

  module _ {T : Type 0} (contents : T → Option (List ℕ)) (a b c : Tally T) where
    -- the first ones went out in part
    pub front_stops : (why : Refusal) → Appends (contents a.inner) (contents b.inner) text → b.failures ≡ a.failures → Puts contents b c (Err why) (flat_map f (take n xs))
        → text ++ flat_map f xs ≡ whole → Puts contents a c (Err why) whole
    front_stops why sent counted put e = sent_stop contents a b c why text (flat_map f (take n xs)) (flat_map f (drop n xs)) whole sent counted put (front_parts e)

    -- or whole: then the others are left
    pub front_goes : Appends (contents a.inner) (contents b.inner) text → Puts contents b c (Ok tt) (flat_map f (take n xs)) → text ++ flat_map f xs ≡ whole
        → (gone : List ℕ) × Appends (contents a.inner) (contents c.inner) gone × (gone ++ flat_map f (drop n xs) ≡ whole)
    front_goes sent put e =
        let first = flat_map f (take n xs) in
        (text ++ first, appends_then (contents a.inner) (contents b.inner) (contents c.inner) text first sent put.0, append_assoc text first (flat_map f (drop n xs)) ∙ front_parts e)
