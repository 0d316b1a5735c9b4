-- The union of sets of points, and the points of readers.
use Rattle.std.proofs.Common.{◌≡◌, ℕ, zero, suc, ◌<◌, ◌||◌, get_or, Bool, true, false, List, [], ◌∷◌, length, take, is_some, refl, sym, ap, ◌∙◌, arith}
use Rattle.pc_model.specs.Maps as map_of
use Rattle.pc_model.specs.Sets as set
use Rattle.pc_model.specs.Sets.{Set, number_order}
use Rattle.pc_model.proofs.MapLaws.{get-empty}
use Rattle.pc_model.proofs.ContentLaws.{contains-union}
use Rattle.pc_model.proofs.SetLaws.{same_set}
use Rattle.pc_part.specs.Parts.{points_of}
use Rattle.pc_streams.specs.declared.reader.PartReader.{PartReader}
use Rattle.pc_streams.specs.Readers.{ranges_read}
use Rattle.pc_stream_join.specs.Headers.{points_read}

or_assoc : (a b c : Bool) → ((a || b) || c) ≡ (a || (b || c))
or_assoc true b c = refl
or_assoc false b c = refl

or_comm : (a b : Bool) → (a || b) ≡ (b || a)
or_comm true true = refl
or_comm true false = refl
or_comm false true = refl
or_comm false false = refl

empty_has : (q : ℕ) → set.contains {o = number_order} set.empty q ≡ false
empty_has q = ap is_some (get-empty number_order q)

pub union_of_empty : (s : Set number_order) → set.union set.empty s ≡ s
union_of_empty s = same_set (set.union set.empty s) s (λ q. contains-union set.empty s q ∙ ap (λ b. b || set.contains s q) (empty_has q))

pub union_with_empty : (s : Set number_order) → set.union s set.empty ≡ s
union_with_empty s = same_set (set.union s set.empty) s (λ q. contains-union s set.empty q ∙ ap (λ b. set.contains s q || b) (empty_has q) ∙ or_comm (set.contains s q) false)

pub union_associates : (s t u : Set number_order) → set.union (set.union s t) u ≡ set.union s (set.union t u)
union_associates s t u = same_set (set.union (set.union s t) u) (set.union s (set.union t u)) (λ q. contains-union (set.union s t) u q ∙ ap (λ b. b || set.contains u q) (contains-union s t q)
    ∙ or_assoc (set.contains s q) (set.contains t q) (set.contains u q) ∙ ap (λ b. set.contains s q || b) (sym (contains-union t u q)) ∙ sym (contains-union s (set.union t u) q))

-- a list that isn't empty has an element
pub some_long : {X : Type 0} (xs : List X) → (xs ≡ [] → ⊥) → 0 < length xs
some_long [] some = absurd (some refl)
some_long (x ∷ xs) some = omega arith

module _ {R : Type 0} where
  -- one reader more
  pub read_more : (inputs : List (PartReader R)) (n : ℕ) (d : PartReader R) → n < length inputs → points_read (take (suc n) inputs) ≡ set.union (points_read (take n inputs)) (points_of (ranges_read (get_or inputs n d)))
  read_more [] n d lt = absurd (omega arith)
  read_more (input ∷ inputs) zero d lt = union_with_empty (points_of (ranges_read input)) ∙ sym (union_of_empty (points_of (ranges_read input)))
  read_more (input ∷ inputs) (suc n) d lt =
      ap (set.union (points_of (ranges_read input))) (read_more inputs n d (omega (arith, lt)))
      ∙ sym (union_associates (points_of (ranges_read input)) (points_read (take n inputs)) (points_of (ranges_read (get_or inputs n d))))
