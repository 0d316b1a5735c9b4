-- The texts of triples go out in order, as a pass gives them.
use Rattle.std.proofs.Common.{◌≡◌, ℕ, List, ◌∷◌, ◌++◌, Option, Ok, Err, sym, subst}
use Rattle.std.proofs.lemmas.List.Concat.{flat_map-append}
use Rattle.std.specs.List.{flat_map}
use Rattle.pc_io.specs.Tallies.{Puts}
use Rattle.pc_io.specs.declared.tally.Tally.{Tally}
use Rattle.pc_types.specs.declared.refusal.Refusal.{Refusal}
use Rattle.pc_io.proofs.PutsLaws.{puts_then, puts_stop}

module _ {T : Type 0} (contents : T → Option (List ℕ)) {X : Type 0} (f : X → List ℕ) (a b c : Tally T) (done : List X) (x : X) (so_far : Puts contents a b (Ok tt) (flat_map f done)) where
  text_of_more : (rest : List X) → flat_map f done ++ (f x ++ flat_map f rest) ≡ flat_map f (done ++ x ∷ rest)
  text_of_more rest = sym (flat_map-append f done (x ∷ rest))

  -- one went out in part
  pub one_stopped : (e : Refusal) (rest all : List X) → done ++ x ∷ rest ≡ all → Puts contents b c (Err e) (f x) → Puts contents a c (Err e) (flat_map f all)
  one_stopped e rest all is put = subst (λ xs. Puts contents a c (Err e) (flat_map f xs)) is (subst (Puts contents a c (Err e)) (text_of_more rest) (puts_then contents a b c (Err e) (flat_map f done) (f x ++ flat_map f rest) so_far (puts_stop contents b c e (f x) (flat_map f rest) put)))
