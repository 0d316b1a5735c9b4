-- The text of a file by its header and its entries, and that a beginning of it is short.
use Rattle.std.proofs.Common.{◌≡◌, ◌≤◌, ◌<◌, ◌+◌, ◌-◌, ◌^◌, ℕ, List, [], ◌++◌, append_assoc, append-nil, length, take, refl, sym, ap, subst, ◌∙◌, Option, Some, None, Err, arith}
use Rattle.std.specs.List.{All, flat_map}
use Rattle.std.proofs.lemmas.List.{length-map, length-append, take-append-le}
use Rattle.std.proofs.lemmas.List.Elements.{All-map, All-from_recursion}
use Rattle.std.proofs.lemmas.List.Folds.{flat_map-map}
use Rattle.pc_io.specs.Counted.{AppendsBeginning, AppendsPart}
use Rattle.pc_types.specs.declared.Refusal.TheVariants.{Short}
use Rattle.pc_types.specs.declared.Triple.{Triple}
use Rattle.pc_io.specs.declared.formats.Format.TheVariants.{Second}
use Rattle.pc_model.specs.Database.{KeysRise}
use Rattle.pc_model.specs.Files.{File}
use Rattle.pc_model.specs.Ranges.{ranges_of}
use Rattle.pc_model.specs.Sets as set
use Rattle.pc_model.specs.TripleLists.{entry_of, map_entries}
use Rattle.pc_model.proofs.PairMapLaws as pairs_of
use Rattle.pc_part.specs.declared.ranges.Range.{Range}
use Rattle.pc_part.specs.Parts.{IsWithinLimit, AreCovered, AreRanges, bounds, bounds_of, points_in, points_of}
use Rattle.pc_part.specs.Lawful.{HasLimits, IsPartEntry, IsPartFile, IsPoint}
use Rattle.pc_io.specs.Fields.{magic_at}
use Rattle.pc_part.specs.Reading.{part_header_at, part_at, part_fields_at}
use Rattle.pc_part.specs.Texts.{bounds_text, end_text, part_entry_text_in, head_text, part_text, part_text_in, part_range_text, triple_text}
use Rattle.pc_part.proofs.CutPartLaws.{part_cut}
use Rattle.pc_part.proofs.LawfulParts.{ranges_points, some_point}
use Rattle.pc_part.proofs.RangePointLaws.{items-points_of, ranges_of-points_of}
use Rattle.pc_stream_join.specs.Joining.{LeavesShort, file_of_entries}
use Rattle.pc_stream_join.specs.Writing.{part_header_text}
use Rattle.pc_stream_join.proofs.WritingLaws.{some_end}

-- ---- the file

module _ (run : ℕ) (ranges : List Range) (given : List Triple) (run_fits : run < 2 ^ 64) (apart : AreRanges ranges) (rise : KeysRise (map_entries given)) (covered : AreCovered (points_of ranges) given) (fit : All HasLimits given) (few : length given ≤ 4294967295) where
  abbrev file : File
  file = file_of_entries run ranges given

  entries_are : map_entries given ≡ file.triples.entries
  entries_are = sym (pairs_of.entries_of (map_entries given) rise)

  items_are : set.items file.points ≡ points_in ranges
  items_are = items-points_of ranges apart

  -- a file with a text
  pub is_file : IsPartFile file
  is_file = record {
    run = run_fits;
    some = subst (λ n. 1 ≤ n) (ap length (sym items_are) ∙ length-map file.points.entries (λ e. e.0)) (some_point ranges apart);
    points = subst (All IsPoint) (sym items_are) (All-from_recursion IsPoint (points_in ranges) (ranges_points 1 ranges (omega arith) apart.1));
    entries = subst (All (IsPartEntry file.points)) entries_are (All-map (IsPartEntry file.points) entry_of given (λ k d lt. record { key = (fit k d lt).0; covered = covered k d lt; content = (fit k d lt).1 }));
    limit = subst IsWithinLimit entries_are (subst (λ n. n ≤ 4294967295) (sym (length-map given entry_of)) few);
  }

  four_parts : head_text run (length ranges) ++ (flat_map bounds_text ranges ++ (flat_map triple_text given ++ end_text (length given))) ≡ part_text file
  unfolding part_text_in
  four_parts =
      let many : length (bounds_of ranges) ≡ length ranges = length-map ranges bounds in
      let more : length (map_entries given) ≡ length given = length-map given entry_of in
      let a : bounds_of ranges ≡ ranges_of (set.items file.points) = sym (ranges_of-points_of ranges apart) in
      rw (← a, ← entries_are, many, more, flat_map-map part_range_text bounds ranges, flat_map-map (part_entry_text_in Second) entry_of given) refl

  abbrev before_end : List ℕ
  before_end = part_header_text run ranges ++ flat_map triple_text given

  -- its text
  pub text_is : before_end ++ end_text (length given) ≡ part_text file
  text_is = grouped (head_text run (length ranges)) (flat_map bounds_text ranges) (flat_map triple_text given) (end_text (length given)) ∙ four_parts
    where
      grouped : (h rs es k : List ℕ) → (((h ++ rs) ++ es) ++ k) ≡ h ++ (rs ++ (es ++ k))
      grouped h rs es k = simp append_assoc

  -- what isn't all of it is short
  part_short : (was now : Option (List ℕ)) → AppendsPart was now (part_text file) → LeavesShort was now
  part_short None now part = tt
  part_short (Some was) None part = absurd part
  part_short (Some was) (Some now) part = (take part.0 (part_text file), part.2, part_cut Second file part.0 is_file (λ k d lt. tt) part.1)

  pub ends_short : (was now : Option (List ℕ)) → AppendsPart was now (before_end ++ end_text (length given)) → LeavesShort was now
  ends_short was now part = part_short was now (subst (AppendsPart was now) text_is part)

  -- so is a beginning without the end
  pub begins_short : (was now : Option (List ℕ)) → AppendsBeginning was now before_end → LeavesShort was now
  begins_short None now part = tt
  begins_short (Some was) None part = absurd part
  begins_short (Some was) (Some now) part =
      let whole = some_end before_end (length given) in
      let parts = length-append before_end (end_text (length given)) in
      let end : 0 < length (end_text (length given)) = some_end [] (length given) in
      ends_short (Some was) (Some now) (part.0, omega (arith, part.1, parts, end), part.2 ∙ ap (λ (t : List ℕ). was ++ t) (sym (take-append-le part.0 before_end (end_text (length given)) part.1)))

none_short : part_at [] ≡ Err Short
unfolding part_fields_at part_header_at magic_at
none_short = refl

-- nothing is short
pub nothing_short : (was : Option (List ℕ)) → LeavesShort was was
nothing_short None = tt
nothing_short (Some was) = ([], sym (append-nil was), none_short)
