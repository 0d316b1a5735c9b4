-- The entries of parts as inputs of a merge.
use Rattle.std.proofs.Common.{◌≡◌, ℕ, zero, suc, Bool, List, [], ◌∷◌, map, get_or, Option, Some, None, inl, inr, refl, sym, ap, ◌∙◌, subst, arith}
use Rattle.std.specs.List.{All}
use Rattle.std.specs.Prelude.{IsTrue}
use Rattle.std.specs.FinMap.{find}
use Rattle.std.specs.Iterator.{YieldsFirst}
use Rattle.std.proofs.lemmas.List.Elements.{All-contains, All-head, All-map, All-nil, All-tail}
use Rattle.pc_io.specs.Counted.{HasRisen}
use Rattle.pc_types.specs.declared.Refusal.TheVariants.{Device}
use Rattle.pc_types.specs.declared.Triple.{Triple}
use Rattle.pc_model.specs.Database.{key_cmp, key_order, KeysRise}
use Rattle.pc_model.specs.Files.{File}
use Rattle.pc_model.specs.Points.{AtPoint}
use Rattle.pc_model.specs.Sets as set
use Rattle.pc_model.specs.Sets.{Set, number_order}
use Rattle.pc_model.specs.TripleLists.{map_entries, triples_of}
use Rattle.pc_model.proofs.MapLaws.{get-entries, get-from_list, same_map}
use Rattle.pc_model.proofs.PairMapLaws.{tested}
use Rattle.pc_part.specs.Parts.{AreCovered}
use Rattle.pc_merge.specs.Coming.{IsWithin}
use Rattle.pc_merge.specs.Inputs.{all_known, known_with}
use Rattle.pc_merge.specs.Standings.{HasFailed, standing_at}
use Rattle.pc_collapse.specs.declared.merging.PartEntries.{PartEntries}
use Rattle.pc_collapse.specs.Merges.{AreAllPoints, IsCovered, entries_coming, entries_of_file, entries_standing, entries_within, file_coming, file_entries}
use Rattle.pc_collapse.specs.Worth.Fact.{HasPoint}
use Rattle.pc_collapse.proofs.FactLists.{file_among}
use Rattle.pc_collapse.proofs.Members.{all_of_each}

-- ---- the triples of a file

abbrev pub at_key : List ℕ × AtPoint → Triple
at_key e = record { key = e.0; point = e.1.point; content = e.1.content }

entries_in : (m : List (List ℕ × AtPoint)) → map_entries (map at_key m) ≡ m
entries_in [] = refl
entries_in (e ∷ m) = ap (λ (es : List (List ℕ × AtPoint)). e ∷ es) (entries_in m)

triples_back : (es : List Triple) → map at_key (map_entries es) ≡ es
triples_back [] = refl
triples_back (t ∷ es) = ap (λ (ts : List Triple). t ∷ ts) (triples_back es)

pub file_triples : (file : File) → triples_of (file_entries file) ≡ file.triples
file_triples file = same_map (triples_of (file_entries file)) file.triples (λ q. get-from_list key_order (map_entries (file_entries file)) q ∙ ap (find key_cmp q) (entries_in file.triples.entries) ∙ sym (get-entries file.triples q))

pub file_rises : (file : File) → KeysRise (map_entries (file_entries file))
file_rises file = subst (λ (es : List (List ℕ × AtPoint)). KeysRise es) (sym (entries_in file.triples.entries)) (tested file.triples.rises)

-- the pass over a part's entries
pass_is : (file : File) (es : List Triple) → map_entries es ≡ file.triples.entries → es ≡ file_entries file
pass_is file es is = sym (triples_back es) ∙ ap (λ (m : List (List ℕ × AtPoint)). map at_key m) is

pub opened : (file : File) (es : List Triple) → map_entries es ≡ file.triples.entries → (let e : PartEntries = record { pass = es; refused = None } in e) ≡ entries_of_file file
opened file es is = ap (λ (l : List Triple). let e : PartEntries = record { pass = l; refused = None } in e) (pass_is file es is)

pub covered : (file : File) (es : List Triple) → map_entries es ≡ file.triples.entries → AreCovered file.points es → IsCovered file
covered file es is all = subst (λ (l : List Triple). AreCovered file.points l) (pass_is file es is) all

-- ---- of all parts

-- what is to come of each is known
pub known : (parts : List File) → all_known (map entries_coming (map entries_of_file parts)) ≡ Some (map file_coming parts)
known [] = refl
known (f ∷ fs) = ap (known_with (Some (file_coming f))) (known fs)

no_refusal : (parts : List File) (place : ℕ) → (standing_at (map entries_standing (map entries_of_file parts)) place).refused ≡ None
no_refusal [] place = refl
no_refusal (f ∷ fs) zero = refl
no_refusal (f ∷ fs) (suc place) = no_refusal fs place

no_failures : (inputs : List PartEntries) (place : ℕ) → (standing_at (map entries_standing inputs) place).failures ≡ 0
no_failures [] place = refl
no_failures (e ∷ es) zero = refl
no_failures (e ∷ es) (suc place) = no_failures es place

-- no device fails
pub no_device : (parts : List File) (inputs : List PartEntries) → HasFailed (map entries_standing (map entries_of_file parts)) (map entries_standing inputs) → ⊥
no_device parts inputs (place, within, inl told) = let bad : None ≡ Some Device = sym (no_refusal parts place) ∙ told in cc
no_device parts inputs (place, within, inr risen) = by risen
  where
    was : List PartEntries
    was = map entries_of_file parts

    by : HasRisen (standing_at (map entries_standing was) place).failures (standing_at (map entries_standing inputs) place).failures → ⊥
    by more = let bad : HasRisen 0 0 = subst (λ n. HasRisen 0 n) (no_failures inputs place) (subst (λ n. HasRisen n (standing_at (map entries_standing inputs) place).failures) (no_failures was place) more) in omega (arith, bad)

-- each entry is of one of the points
pub are_within : (parts : List File) (points : Set number_order) → All IsCovered parts → AreAllPoints parts points → All (λ (e : PartEntries). entries_within e (set.contains points)) (map entries_of_file parts)
are_within parts points own all = All-map (λ (e : PartEntries). entries_within e (set.contains points)) entries_of_file parts
    (all_of_each (λ (f : File). entries_within (entries_of_file f) (set.contains points)) parts
    (λ f there. λ k d within. all.whole (get_or (file_entries f) k d).point (file_among (HasPoint (get_or (file_entries f) k d).point) parts f there (All-contains IsCovered parts f own there k d within))))

-- the first entry is drawn
pub yields_within : (points : ℕ → Bool) (old new : List Triple) (next : Option Triple) → YieldsFirst (λ (s : List Triple). s) old next new → All (λ (t : Triple). IsTrue (points t.point)) old → IsWithin points next × All (λ (t : Triple). IsTrue (points t.point)) new
yields_within points old new None gives all = (tt, subst (All (λ (t : Triple). IsTrue (points t.point))) (sym gives.1) (All-nil (λ (t : Triple). IsTrue (points t.point))))
yields_within points old new (Some entry) gives all =
    let whole = subst (All (λ (t : Triple). IsTrue (points t.point))) gives all in
    (All-head (λ (t : Triple). IsTrue (points t.point)) entry new whole, All-tail (λ (t : Triple). IsTrue (points t.point)) entry new whole)
