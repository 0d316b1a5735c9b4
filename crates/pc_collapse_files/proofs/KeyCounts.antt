-- Numbers of keys: entries whose keys are all among others are no more than those.
use Rattle.std.proofs.Common.{◌≡◌, ◌≤◌, ◌<◌, ◌^◌, true, List, [], ◌∷◌, length, Some, None, Option, is_some, refl, ap, ◌∙◌, arith}
use Rattle.std.specs.List.{All}
use Rattle.std.proofs.lemmas.List.{length-map}
use Rattle.std.proofs.lemmas.List.Elements.{All-cons, All-head, All-nil, All-tail}
use Rattle.pc_types.specs.declared.limits.TheConstants.{MOST_FILE_ENTRIES}
use Rattle.pc_types.specs.declared.Triple.{Triple}
use Rattle.pc_model.specs.Maps.{get, len}
use Rattle.pc_model.specs.Maps as map_of
use Rattle.pc_model.specs.Sets as set
use Rattle.pc_model.specs.Database.{KeysRise}
use Rattle.pc_model.specs.Points.{AtPoint, Triples}
use Rattle.pc_model.specs.TripleLists.{entry_of, map_entries, triples_of}
use Rattle.pc_model.proofs.PairMapLaws as pair_maps
use Rattle.pc_model.proofs.TripleCounts.{len_sub}
use Rattle.pc_merge.specs.Coming.{Coming}
use Rattle.pc_merge.specs.Given.{IsUnder, IsUnderAt}

-- the number of keys of entries that ascend
pub len_rising : (es : List Triple) → KeysRise (map_entries es) → len (triples_of es) ≡ length es
len_rising es rise = ap length (pair_maps.entries_of (map_entries es) rise) ∙ length-map es entry_of

is_there : (x y : Option AtPoint) (t : AtPoint) → IsUnderAt x y → x ≡ Some t → is_some y ≡ true
is_there None y t under is = cc
is_there (Some a) None t under is = absurd under
is_there (Some a) (Some b) t under is = refl

-- entries that ascend, under triples of which a file has no more than the limit
few : (es : List Triple) (all : Triples) → KeysRise (map_entries es) → IsUnder (triples_of es) all → len all ≤ MOST_FILE_ENTRIES → length es < 2 ^ 64
few es all rise under limit =
    let less = len_sub (triples_of es) all (λ q x is. is_there (get (triples_of es) q) (get all q) x (under q) is) in
    let many = len_rising es rise in
    omega (arith, less, many, limit)

-- the same of each input of a merge
pub all_few : (inputs : List Coming) (all : Triples) → All (λ input. KeysRise (map_entries input.entries)) inputs → All (λ input. IsUnder (triples_of input.entries) all) inputs → len all ≤ MOST_FILE_ENTRIES → All (λ input. length input.entries < 2 ^ 64) inputs
all_few [] all rise under limit = All-nil (λ (input : Coming). length input.entries < 2 ^ 64)
all_few (input ∷ inputs) all rise under limit = All-cons (λ (input : Coming). length input.entries < 2 ^ 64) input inputs
    (few input.entries all (All-head (λ (input : Coming). KeysRise (map_entries input.entries)) input inputs rise) (All-head (λ (input : Coming). IsUnder (triples_of input.entries) all) input inputs under) limit)
    (all_few inputs all (All-tail (λ (input : Coming). KeysRise (map_entries input.entries)) input inputs rise) (All-tail (λ (input : Coming). IsUnder (triples_of input.entries) all) input inputs under) limit)
