-- A part file is read from its text alone, and its text is read as it.
use Rattle.std.proofs.Common.{◌≡◌, ◌≤◌, length, ℕ, List, [], ◌∷◌, Result, Ok, Err, refl, sym, ap, subst, ◌∙◌}
use Rattle.std.specs.Prelude.{IfOk, IsTrue}
use Rattle.std.specs.List.{All, AllByRecursion}
use Rattle.std.proofs.lemmas.List.{length-map}
use Rattle.std.proofs.lemmas.List.Elements.{All-from_recursion}
use Rattle.pc_types.specs.declared.Refusal.{Refusal}
use Rattle.pc_types.specs.Limits.{IsKey}
use Rattle.pc_io.specs.declared.formats.Format.{Format}
use Rattle.pc_io.specs.Fields.{Gives, HasKey}
use Rattle.pc_io.proofs.FieldLaws.{bind_ok, ok_is}
use Rattle.pc_types.specs.Bytes.{IsBytes}
use Rattle.pc_model.specs.Maps as map_of
use Rattle.pc_model.specs.Sets as set
use Rattle.pc_model.specs.Database.{KeysRise}
use Rattle.pc_model.specs.Files.{File}
use Rattle.pc_model.specs.TripleLists.{entry_of, map_entries, triples_of}
use Rattle.pc_model.specs.Points.{AtPoint}
use Rattle.pc_model.specs.Ranges.{ranges_of}
use Rattle.pc_types.specs.declared.Triple.{Triple}
use Rattle.pc_model.proofs.PairMapLaws as pairs_of
use Rattle.pc_part.specs.declared.ranges.Range.{Range}
use Rattle.pc_part.specs.Lawful.{HasLimits, IsPartEntry, IsPartFile, HasPart, IsPartText}
use Rattle.pc_part.specs.Parts.{AreCovered, points_of}
use Rattle.pc_part.specs.Reading.{PartFields, part_fields_at, part_of_fields, part_at}
use Rattle.pc_part.specs.Texts.{part_text_in}
use Rattle.pc_part.proofs.LawfulParts.{part_lawful}
use Rattle.pc_part.proofs.PartTexts.{text_parts_in}
use Rattle.pc_part.proofs.RangePointLaws.{ranges_of-points_of, contains-points_of}
use Rattle.pc_part.proofs.RangesOfPoints.{as_ranges, ranges_apart, points_back}
use Rattle.pc_part.proofs.ListLaws.{by_recursion}
use Rattle.pc_part.proofs.ReadFieldLaws.{EntriesFrom}
use Rattle.pc_part.proofs.ReadParts.{fields_text, IsPartFields, fields_take, fields_again}
use Rattle.pc_part.proofs.RisingKeyLaws.{RisesFrom, keys_rise, rises_from_empty}

-- ---- the file of the fields

entries_rise : (format : Format) (ranges : List Range) (last : List ℕ) (triples : List Triple) → EntriesFrom format ranges last triples → RisesFrom last (map_entries triples)
entries_rise format ranges last [] h = tt
entries_rise format ranges last (t ∷ triples) h = (h.0, entries_rise format ranges t.key triples h.4)

entries_covered : (format : Format) (ranges : List Range) (last : List ℕ) (triples : List Triple) → EntriesFrom format ranges last triples → AllByRecursion (λ triple. IsTrue (set.contains (points_of ranges) triple.point)) triples
entries_covered format ranges last [] h = tt
entries_covered format ranges last (t ∷ triples) h = (contains-points_of ranges t.point ∙ h.2, entries_covered format ranges t.key triples h.4)

entries_fit : (format : Format) (ranges : List Range) (last : List ℕ) (triples : List Triple) → EntriesFrom format ranges last triples → AllByRecursion HasLimits triples
entries_fit format ranges last [] h = tt
entries_fit format ranges last (t ∷ triples) h = (h.1, entries_fit format ranges t.key triples h.4)

entries_have : (format : Format) (ranges : List Range) (last : List ℕ) (triples : List Triple) → EntriesFrom format ranges last triples → AllByRecursion (λ entry. HasKey format entry.0) (map_entries triples)
entries_have format ranges last [] h = tt
entries_have format ranges last (t ∷ triples) h = (h.3, entries_have format ranges t.key triples h.4)

module _ (format : Format) (x : PartFields) (lawful : IsPartFields format x) where
  pub fields_rise : KeysRise (map_entries x.entries)
  fields_rise = keys_rise [] (map_entries x.entries) (entries_rise format x.ranges [] x.entries lawful.entries)

  pub fields_covered : AreCovered (points_of x.ranges) x.entries
  fields_covered = All-from_recursion (λ triple. IsTrue (set.contains (points_of x.ranges) triple.point)) x.entries (entries_covered format x.ranges [] x.entries lawful.entries)

  fields_fit : All HasLimits x.entries
  fields_fit = All-from_recursion HasLimits x.entries (entries_fit format x.ranges [] x.entries lawful.entries)

  entries_are : map_entries x.entries ≡ (part_of_fields x).triples.entries
  entries_are = sym (pairs_of.entries_of (map_entries x.entries) fields_rise)

  file_lawful : IsPartFile (part_of_fields x)
  file_lawful = part_lawful (part_of_fields x) x.run x.ranges x.entries refl refl entries_are lawful.run lawful.apart fields_covered lawful.limit fields_fit

  file_has : HasPart format (part_of_fields x)
  file_has = subst (All (λ (entry : List ℕ × AtPoint). HasKey format entry.0)) entries_are (All-from_recursion (λ (entry : List ℕ × AtPoint). HasKey format entry.0) (map_entries x.entries) (entries_have format x.ranges [] x.entries lawful.entries))

  file_text : fields_text format x ≡ part_text_in format (part_of_fields x)
  file_text = text_parts_in format (part_of_fields x) x.run x.ranges x.entries refl (sym (ranges_of-points_of x.ranges lawful.apart)) entries_are

-- ---- the fields of a file

abbrev triples_by : List (List ℕ × AtPoint) → List Triple
triples_by [] = []
triples_by (e ∷ es) = record { key = e.0; point = e.1.point; content = e.1.content } ∷ triples_by es

entries_back : (es : List (List ℕ × AtPoint)) → map_entries (triples_by es) ≡ es
entries_back [] = refl
entries_back (e ∷ es) = ap (λ (rest : List (List ℕ × AtPoint)). e ∷ rest) (entries_back es)

fields_from : (format : Format) (file : File) (ranges : List Range) → points_of ranges ≡ file.points → (last : List ℕ) (es : List (List ℕ × AtPoint)) → RisesFrom last es → AllByRecursion (IsPartEntry file.points) es
    → AllByRecursion (λ entry. HasKey format entry.0) es → EntriesFrom format ranges last (triples_by es)
fields_from format file ranges same last [] h fit has = tt
fields_from format file ranges same last (e ∷ es) h fit has =
    (h.0, (fit.0.key, fit.0.content), sym (contains-points_of ranges e.1.point) ∙ ap (λ points. set.contains points e.1.point) same ∙ fit.0.covered, has.0, fields_from format file ranges same e.0 es h.1 fit.1 has.1)

keys_fit : (file : File) (es : List (List ℕ × AtPoint)) → AllByRecursion (IsPartEntry file.points) es → AllByRecursion (λ e. IsKey e.0) es
keys_fit file [] fit = tt
keys_fit file (e ∷ es) fit = (fit.0.key, keys_fit file es fit.1)

module _ (format : Format) (file : File) (lawful : IsPartFile file) (has : HasPart format file) where
  abbrev fields_of : PartFields
  fields_of = record { run = file.run; ranges = as_ranges (ranges_of (set.items file.points)); entries = triples_by file.triples.entries }

  back : points_of fields_of.ranges ≡ file.points
  back = points_back file.points lawful.some lawful.points

  fit : AllByRecursion (IsPartEntry file.points) file.triples.entries
  fit = by_recursion (IsPartEntry file.points) file.triples.entries lawful.entries

  rise : KeysRise file.triples.entries
  rise = pairs_of.tested file.triples.rises

  has_each : AllByRecursion (λ entry. HasKey format entry.0) file.triples.entries
  has_each = by_recursion (λ (entry : List ℕ × AtPoint). HasKey format entry.0) file.triples.entries has

  fields_lawful : IsPartFields format fields_of
  fields_lawful = record {
    run = lawful.run;
    apart = ranges_apart file.points lawful.some lawful.points;
    entries = fields_from format file fields_of.ranges back [] file.triples.entries (rises_from_empty file.triples.entries (keys_fit file file.triples.entries fit) rise) fit has_each;
    limit = subst (λ n. n ≤ 4294967295) (ap length (sym (entries_back file.triples.entries)) ∙ length-map (triples_by file.triples.entries) entry_of) lawful.limit;
  }

  triples_back : triples_of fields_of.entries ≡ file.triples
  triples_back = ap (λ es. map_of.from_list es) (entries_back file.triples.entries) ∙ map_of.same_by_entries _ _ (pairs_of.entries_of file.triples.entries rise)

  file_back : part_of_fields fields_of ≡ file
  file_back = λ i. record { run = file.run; points = back i; triples = triples_back i }

  -- a part's text is read as the part
  pub part_again : part_at (part_text_in format file) ≡ Ok file
  part_again =
      let text : fields_text format fields_of ≡ part_text_in format file = file_text format fields_of fields_lawful ∙ ap (part_text_in format) file_back in
      let read : part_fields_at (part_text_in format file) ≡ Ok fields_of = ap part_fields_at (sym text) ∙ fields_again format fields_of fields_lawful in
      rw read (ap (λ (f : File). Ok f) file_back)

-- bytes that are read are a text of what is read
pub part_takes : (bytes : List ℕ) (file : File) → IsBytes bytes → part_at bytes ≡ Ok file → IsPartFile file × IsPartText bytes file
part_takes bytes file fits e =
    let a = bind_ok (part_fields_at bytes) (λ part. Ok (part_of_fields part)) file e in
    let x : PartFields = a.0 in
    let taken = fields_take bytes x fits a.1 in
    let format : Format = taken.0 in
    subst (λ (f : File). IsPartFile f × IsPartText bytes f) {x = part_of_fields x} (ok_is (part_of_fields x) file a.2)
    (file_lawful format x taken.1, (format, file_has format x taken.1, taken.2 ∙ file_text format x taken.1))

-- the same of a call's answer
pub part_found : (bytes : List ℕ) (r : Result File Refusal) → IsBytes bytes → Gives (λ part. part) r (part_at bytes) → IfOk r (λ part. IsPartFile part × IsPartText bytes part)
part_found bytes (Ok part) fits given = part_takes bytes part fits given
part_found bytes (Err e) fits given = tt

-- a part whose text the bytes are is read of them
pub text_is_read : (bytes : List ℕ) (file : File) → IsPartFile file → IsPartText bytes file → part_at bytes ≡ Ok file
text_is_read bytes file lawful text = ap part_at text.2 ∙ part_again text.0 file lawful text.1
