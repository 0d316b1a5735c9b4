-- What was taken for a point, as triples of the point.
use Rattle.std.proofs.Common.{◌≡◌, ℕ, ◌+◌, ◌-◌, ◌&&◌, List, [], ◌∷◌, Option, map, refl, sym, ap, ◌∙◌, arith}
use Rattle.std.specs.Prelude.{IsTrue}
use Rattle.std.specs.Ordering.{is_lt}
use Rattle.std.specs.FinMap.{is_sorted}
use Rattle.std.specs.FinMap.Entries.{below_all}
use Rattle.std.proofs.lemmas.Bool.Decides.{nat_tests}
use Rattle.std.proofs.lemmas.List.{length-map}
use Rattle.std.proofs.lemmas.List.Elements.{All-map}
use Rattle.pc_model.specs.Maps as map_of
use Rattle.pc_model.specs.Sets as set
use Rattle.pc_model.specs.Sets.{Set, number_order}
use Rattle.pc_model.specs.Database.{key_cmp, KeysRise}
use Rattle.pc_model.specs.Files.{triples_taken}
use Rattle.pc_model.specs.TripleLists.{map_entries, triple_at, triples_of}
use Rattle.pc_model.specs.Points.{Triples}
use Rattle.pc_types.specs.declared.Triple.{Triple}
use Rattle.pc_model.proofs.PairMapLaws as pairs
use Rattle.pc_part.specs.declared.ranges.Range.{Range}
use Rattle.pc_part.specs.Parts.{IsWithinLimit, points_of, AreCovered}
use Rattle.pc_part.proofs.RangePointLaws.{contains-points_of}

abbrev Taken : Type 0
Taken = List (List ℕ × Option (List ℕ))

below_same : (point : ℕ) (key : List ℕ) (taken : Taken) → below_all key_cmp key (map_entries (map (triple_at point) taken)) ≡ below_all key_cmp key taken
below_same point key [] = refl
below_same point key (t ∷ taken) = ap (λ b. is_lt (key_cmp key t.0) && b) (below_same point key taken)

rise_same : (point : ℕ) (taken : Taken) → is_sorted key_cmp (map_entries (map (triple_at point) taken)) ≡ is_sorted key_cmp taken
rise_same point [] = refl
rise_same point (t ∷ taken) = ap (λ b. b && is_sorted key_cmp (map_entries (map (triple_at point) taken))) (below_same point t.0 taken) ∙ ap (λ b. below_all key_cmp t.0 taken && b) (rise_same point taken)

-- the keys ascend as they did before
pub taken_rise : (point : ℕ) (taken : Taken) (triples : List Triple) → triples ≡ map (triple_at point) taken → KeysRise taken → KeysRise (map_entries triples)
taken_rise point taken triples is rise = rw is (rise_same point taken ∙ rise)

-- the points of one range of one point
pub one_point : (point : ℕ) (ranges : List Range) → ranges ≡ record { low = point; high = point } ∷ [] → points_of ranges ≡ set.insert set.empty point
one_point point ranges is = let one : point + 1 - point ≡ 1 = omega arith in rw (is, one) refl

-- all triples are of that point
pub taken_covered : (point : ℕ) (taken : Taken) (triples : List Triple) (ranges : List Range) → triples ≡ map (triple_at point) taken → ranges ≡ record { low = point; high = point } ∷ [] → AreCovered (points_of ranges) triples
taken_covered point taken triples ranges is one = rw (is, one) (All-map (λ triple. IsTrue (set.contains (points_of (record { low = point; high = point } ∷ [])) triple.point)) (triple_at point) taken (λ k d lt. contains-points_of (record { low = point; high = point } ∷ []) point ∙ grind (arith, nat_tests)))

-- they are of the points if that is one
pub taken_among : (point : ℕ) (taken : Taken) (triples : List Triple) (points : Set number_order) → triples ≡ map (triple_at point) taken → IsTrue (set.contains points point) → AreCovered points triples
taken_among point taken triples points is among = rw is (All-map (λ triple. IsTrue (set.contains points triple.point)) (triple_at point) taken (λ k d lt. among))

-- and no more than were taken
pub taken_within : (point : ℕ) (taken : Taken) (triples : List Triple) → triples ≡ map (triple_at point) taken → IsWithinLimit taken → IsWithinLimit triples
taken_within point taken triples is within = let same = length-map taken (triple_at point) in rw is (omega (arith, same, within))

triples_same : (point : ℕ) (taken : Taken) → triples_of (map (triple_at point) taken) ≡ triples_taken point taken
triples_same point [] = refl
triples_same point (t ∷ taken) = ap (λ m. map_of.insert m t.0 (record { point = point; content = t.1 })) (triples_same point taken)

-- the triples are those of what was taken
pub taken_triples : (point : ℕ) (taken : Taken) (triples : List Triple) → triples ≡ map (triple_at point) taken → triples_of triples ≡ triples_taken point taken
taken_triples point taken triples is = rw is (triples_same point taken)

-- ascending triples are the entries of their map
pub entries_known : (inside given : List Triple) (triples : Triples) → KeysRise (map_entries inside) → triples_of inside ≡ triples → given ≡ inside → map_entries given ≡ triples.entries
entries_known inside given triples rise is same = ap map_entries same ∙ sym (pairs.entries_of (map_entries inside) rise) ∙ ap (λ m. m.entries) is
