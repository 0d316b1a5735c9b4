-- The file that is written of inputs is the fold of their parts.
use Rattle.std.proofs.Common.{◌≡◌, ℕ, eqb, not, ◌||◌, Bool, true, false, List, [], ◌∷◌, length, map, Option, Some, None, Result, Ok, Err, inr, refl, sym, ap, subst, ◌∙◌, arith}
use Rattle.std.specs.Prelude.{MatchBool, is_some}
use Rattle.std.specs.List.{All, Contains, list_any}
use Rattle.std.proofs.lemmas.Bool.Decides.{nat_tests}
use Rattle.std.proofs.lemmas.List.Elements.{All-cons, All-contains, All-head, All-nil, All-tail}
use Rattle.pc_types.specs.declared.Refusal.{Refusal}
use Rattle.pc_types.specs.declared.Refusal.TheVariants.{OtherRun}
use Rattle.pc_types.specs.declared.Triple.{Triple}
use Rattle.pc_model.specs.Maps as map_of
use Rattle.pc_model.specs.Maps.{get}
use Rattle.pc_model.specs.Sets as set
use Rattle.pc_model.specs.Sets.{Set, number_order}
use Rattle.pc_model.specs.Points.{AtPoint, Triples, joined}
use Rattle.pc_model.specs.Files.{File}
use Rattle.pc_model.proofs.ContentLaws.{contains-union}
use Rattle.pc_model.proofs.MapLaws.{get-empty}
use Rattle.pc_model.proofs.SetLaws.{same_set}
use Rattle.pc_part.specs.declared.ranges.Range.{Range}
use Rattle.pc_part.specs.Parts.{points_of}
use Rattle.pc_model.specs.TripleLists.{triples_of}
use Rattle.pc_merge.specs.Coming.{Coming}
use Rattle.pc_merge.specs.Given.{IsMerge, IsUnder, IsUnderAt, joined_all}
use Rattle.pc_stream_join.specs.Headers.{IsHeaderOfAll, points_of_all}
use Rattle.pc_stream_join.specs.Joining.{file_of_entries}
use Rattle.pc_merge.specs.Folds.{Folds, IsFold, folded, has_other_run}

-- the files of these headers with these entries
abbrev pub parts_of : List (ℕ × List Range) → List Coming → List File
parts_of (header ∷ headers) (input ∷ inputs) = file_of_entries header.0 header.1 input.entries ∷ parts_of headers inputs
parts_of headers inputs = []

-- a file is covered by itself
under_itself : (x : Option AtPoint) → IsUnderAt x x
under_itself None = tt
under_itself (Some a) = inr refl

-- a file alone is its fold
pub alone : (file : File) → Folds (file ∷ []) (Ok file)
alone file = record {
  is = refl;
  over = λ one there key. subst (λ (f : File). IsUnderAt (get f.triples key) (get file.triples key)) (only one there) (under_itself (get file.triples key));
}
  where
    only : (one : File) → Contains (file ∷ []) one → file ≡ one
    only one there = All-contains (λ (f : File). file ≡ f) (file ∷ []) one (All-cons (λ (f : File). file ≡ f) file [] refl (All-nil (λ (f : File). file ≡ f))) there

-- ---- the keys of a fold of such files

nothing_joined : (m : Triples) → m ≡ joined m map_of.empty
unfolding map_of.empty
nothing_joined m = refl

or_false : (t : Bool) → t ≡ (t || false)
or_false true = refl
or_false false = refl

none_has : (p : ℕ) → set.contains (let none : Set number_order = set.empty in none) p ≡ false
none_has p = ap is_some (get-empty number_order p)

nothing_united : (s : Set number_order) → s ≡ set.union s set.empty
nothing_united s = same_set s (set.union s set.empty) (λ p. or_false (set.contains s p) ∙ ap (λ t. set.contains s p || t) (sym (none_has p)) ∙ sym (contains-union s set.empty p))

triples_all : (f : File) (headers : List (ℕ × List Range)) (inputs : List Coming) → length headers ≡ length inputs → (folded f (parts_of headers inputs)).triples ≡ joined f.triples (joined_all (map (λ (i : Coming). triples_of i.entries) inputs))
triples_all f [] [] many = nothing_joined f.triples
triples_all f [] (i ∷ is) many = absurd (omega (arith, many))
triples_all f (h ∷ hs) [] many = absurd (omega (arith, many))
triples_all f (h ∷ hs) (i ∷ is) many = ap (joined f.triples) (triples_all (file_of_entries h.0 h.1 i.entries) hs is (omega (arith, many)))

points_all : (f : File) (headers : List (ℕ × List Range)) (inputs : List Coming) → length headers ≡ length inputs → (folded f (parts_of headers inputs)).points ≡ set.union f.points (points_of_all headers)
points_all f [] [] many = nothing_united f.points
points_all f [] (i ∷ is) many = absurd (omega (arith, many))
points_all f (h ∷ hs) [] many = absurd (omega (arith, many))
points_all f (h ∷ hs) (i ∷ is) many = ap (set.union f.points) (points_all (file_of_entries h.0 h.1 i.entries) hs is (omega (arith, many)))

run_of_folded : (g : File) (gs : List File) → (folded g gs).run ≡ g.run
run_of_folded g [] = refl
run_of_folded g (h ∷ gs) = refl

-- files of one run
one_run : (run other : ℕ) (headers : List (ℕ × List Range)) (inputs : List Coming) → other ≡ run → All (λ (h : ℕ × List Range). h.0 ≡ run) headers → list_any (λ (g : File). not (eqb g.run other)) (parts_of headers inputs) ≡ false
one_run run other [] inputs first all = refl
one_run run other (h ∷ hs) [] first all = refl
one_run run other (h ∷ hs) (i ∷ is) first all =
    let own : h.0 ≡ run = All-head (λ (h : ℕ × List Range). h.0 ≡ run) h hs all in
    let same : eqb h.0 other ≡ true = grind (arith, nat_tests, own, first) in
    ap (λ t. not t || list_any (λ (g : File). not (eqb g.run other)) (parts_of hs is)) same ∙ one_run run other hs is first (All-tail (λ (h : ℕ × List Range). h.0 ≡ run) h hs all)

-- a fact of the triples of each input is one of those of each file
each_part : (P : Triples → Type 0) (headers : List (ℕ × List Range)) (inputs : List Coming) → All (λ (i : Coming). P (triples_of i.entries)) inputs → All (λ (f : File). P f.triples) (parts_of headers inputs)
each_part P [] inputs all = All-nil (λ (f : File). P f.triples)
each_part P (h ∷ hs) [] all = All-nil (λ (f : File). P f.triples)
each_part P (h ∷ hs) (i ∷ is) all = All-cons (λ (f : File). P f.triples) (file_of_entries h.0 h.1 i.entries) (parts_of hs is) (All-head (λ (i : Coming). P (triples_of i.entries)) i is all) (each_part P hs is (All-tail (λ (i : Coming). P (triples_of i.entries)) i is all))

abbrev done : File → Result File Refusal
done file = Ok file

folds_by : (f : File) (fs : List File) (file : File) → has_other_run f fs ≡ false → IsFold f fs file → Folds (f ∷ fs) (Ok file)
folds_by f fs file one is = subst (λ t. MatchBool t (done file ≡ Err OtherRun) (IsFold f fs file)) (sym one) is

-- the fold
pub merged_folds : (run : ℕ) (ranges : List Range) (given : List Triple) (headers : List (ℕ × List Range)) (inputs : List Coming) → length headers ≡ length inputs → IsHeaderOfAll run ranges headers → IsMerge inputs given
    → Folds (parts_of headers inputs) (Ok (file_of_entries run ranges given))
merged_folds run ranges given [] inputs many of merge = absurd (let some = of.some in omega (arith, some))
merged_folds run ranges given (h ∷ hs) [] many of merge = absurd (omega (arith, many))
merged_folds run ranges given (h ∷ hs) (i ∷ is) many of merge = folds_by first others (file_of_entries run ranges given) (one_run run h.0 hs is own (All-tail (λ (h : ℕ × List Range). h.0 ≡ run) h hs of.one_run)) (record {
  is = λ k. record { run = runs k; points = points k; triples = triples k };
  over = λ one there. All-contains (λ (f : File). IsUnder f.triples (triples_of given)) (first ∷ others) one (each_part (λ m. IsUnder m (triples_of given)) (h ∷ hs) (i ∷ is) merge.over) there;
})
  where
    first : File
    first = file_of_entries h.0 h.1 i.entries

    others : List File
    others = parts_of hs is

    own : h.0 ≡ run
    own = All-head (λ (h : ℕ × List Range). h.0 ≡ run) h hs of.one_run

    runs : run ≡ (folded first others).run
    runs = sym (run_of_folded first others ∙ own)

    points : points_of ranges ≡ (folded first others).points
    points = of.points ∙ sym (points_all first hs is (omega (arith, many)))

    triples : triples_of given ≡ (folded first others).triples
    triples = merge.joined ∙ sym (triples_all first hs is (omega (arith, many)))
