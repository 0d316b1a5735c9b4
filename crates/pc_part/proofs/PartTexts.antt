-- The text of a part, by the lists that it has.
use Rattle.std.proofs.Common.{◌≡◌, ◌≤◌, ◌+◌, ◌-◌, ◌*◌, ℕ, List, [], ◌∷◌, ◌++◌, length, refl, arith}
use Rattle.std.specs.List.{flat_map}
use Rattle.std.proofs.lemmas.List.{length-map}
use Rattle.std.proofs.lemmas.List.Folds.{flat_map-map}
use Rattle.pc_model.specs.Sets as set
use Rattle.pc_model.specs.Files.{File}
use Rattle.pc_model.specs.TripleLists.{entry_of, map_entries}
use Rattle.pc_model.specs.Ranges.{ranges_of}
use Rattle.pc_types.specs.declared.Triple.{Triple}
use Rattle.pc_io.specs.declared.formats.Format.{Format}
use Rattle.pc_io.specs.declared.formats.Format.TheVariants.{Second}
use Rattle.pc_part.specs.declared.ranges.Range.{Range}
use Rattle.pc_part.specs.Parts.{RangesFrom, bounds, bounds_of}
use Rattle.pc_part.specs.Texts.{head_text, head_text_in, part_range_text, bounds_text, part_entry_text_in, triple_text, triple_text_in, end_text, part_text, part_text_in}

-- there are few ranges, since there are few points
pub few_ranges : (least : ℕ) (ranges : List Range) → RangesFrom least ranges → 2 * length ranges ≤ 65537 - least
few_ranges least [] h = omega arith
few_ranges least (r ∷ ranges) h = let rest = few_ranges (r.high + 2) ranges h.3 in let a : least ≤ r.low = h.0 in let b : r.low ≤ r.high = h.1 in let c : r.high ≤ 65535 = h.2 in omega arith

-- the four pieces of the text, of a part known by its lists
pub text_parts_in : (format : Format) (file : File) (run : ℕ) (ranges : List Range) (triples : List Triple) → run ≡ file.run → bounds_of ranges ≡ ranges_of (set.items file.points) → map_entries triples ≡ file.triples.entries
    → head_text_in format run (length ranges) ++ (flat_map bounds_text ranges ++ (flat_map (triple_text_in format) triples ++ end_text (length triples))) ≡ part_text_in format file
unfolding part_text_in
text_parts_in format file run ranges triples a b c =
    let many : length (bounds_of ranges) ≡ length ranges = length-map ranges bounds in
    let more : length (map_entries triples) ≡ length triples = length-map triples entry_of in
    rw (← a, ← b, ← c, many, more, flat_map-map part_range_text bounds ranges, flat_map-map (part_entry_text_in format) entry_of triples) refl

-- the same of what is written
pub text_parts : (file : File) (run : ℕ) (ranges : List Range) (triples : List Triple) → run ≡ file.run → bounds_of ranges ≡ ranges_of (set.items file.points) → map_entries triples ≡ file.triples.entries
    → head_text run (length ranges) ++ (flat_map bounds_text ranges ++ (flat_map triple_text triples ++ end_text (length triples))) ≡ part_text file
text_parts = text_parts_in Second
