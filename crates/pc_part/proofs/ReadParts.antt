-- What is read of a part file is what was written, and what was written is read again.
use Rattle.std.proofs.Common.{◌≡◌, ℕ, ◌^◌, ◌<◌, nat_lt, eqb, true, List, [], ◌++◌, length, Result, Ok, refl, sym, ap, subst, ◌∙◌, append_assoc, arith}
use Rattle.std.specs.List.{flat_map}
use Rattle.std.specs.Int.{w32, w64, to_be_bytes}
use Rattle.std.proofs.lemmas.Bool.{eqb-true}
use Rattle.std.proofs.lemmas.Bool.Decides.{nat_tests}
use Rattle.std.proofs.lemmas.List.{append-nil, nil_from_length, length-append}
use Rattle.pc_types.specs.declared.Refusal.{Refusal}
use Rattle.pc_types.specs.declared.Refusal.TheVariants.{Short, BadRanges, BadLength, Trailing}
use Rattle.pc_io.specs.declared.formats.Format.{Format}
use Rattle.pc_io.specs.declared.formats.Format.TheVariants.{First, Second}
use Rattle.pc_io.specs.Fields.{◌>>=◌, where_true, number_at, magic_at}
use Rattle.pc_io.proofs.FieldLaws.{bind_ok, where_ok, ok_is, TakesText-then, wide32, wide64, number_takes, number_again}
use Rattle.pc_types.specs.Bytes.{IsBytes}
use Rattle.pc_io.specs.FieldForms.{TakesText}
use Rattle.pc_types.specs.declared.Triple.{Triple}
use Rattle.pc_part.specs.declared.ranges.Range.{Range}
use Rattle.pc_part.specs.Parts.{IsWithinLimit, AreRanges}
use Rattle.pc_part.specs.Reading.{ranges_at, part_entries_at, part_header_at, PartFields, part_fields_at}
use Rattle.pc_part.specs.Texts.{part_magic, head_text_in, bounds_text, triple_text_in, end_text}
use Rattle.pc_part.proofs.Magics.{part_magic_takes, part_magic_again}
use Rattle.pc_part.proofs.PartTexts.{few_ranges}
use Rattle.pc_part.proofs.ReadFieldLaws.{EntriesFrom, end_mark, ranges_take, ranges_again, entries_take, entries_again, few_entries}

-- the text of a part's fields
abbrev pub fields_text : Format → PartFields → List ℕ
fields_text format x = head_text_in format x.run (length x.ranges) ++ (flat_map bounds_text x.ranges ++ (flat_map (triple_text_in format) x.entries ++ end_text (length x.entries)))

-- the fields of a part, of which the format has a text
pub record IsPartFields (format : Format) (x : PartFields) : Type 0 where
  pub run : x.run < 2 ^ 64
  pub apart : AreRanges x.ranges
  pub entries : EntriesFrom format x.ranges [] x.entries
  pub limit : IsWithinLimit x.entries

-- ---- the steps of reading, from the last

abbrev after_rest : ℕ → List Range → List Triple → List ℕ → Result PartFields Refusal
after_rest run ranges entries rest = where_true (eqb (length rest) 0) Trailing (record { run = run; ranges = ranges; entries = entries })

abbrev after_total : ℕ → List Range → List Triple → ℕ × List ℕ → Result PartFields Refusal
after_total run ranges entries total = where_true (eqb total.0 (length entries)) BadLength total.1 >>= after_rest run ranges entries

abbrev after_entries : ℕ → List Range → List Triple × List ℕ → Result PartFields Refusal
after_entries run ranges entries = number_at Short w32 entries.1 >>= after_total run ranges entries.0

-- the header before the entries, and the bytes after it
abbrev Header : Type 0
Header = (Format × (ℕ × List Range)) × List ℕ

abbrev after_header : Header → Result PartFields Refusal
after_header header = part_entries_at header.0.0 (length header.1) header.0.1.1 [] header.1 >>= after_entries header.0.1.0 header.0.1.1

-- ---- the steps of reading a header, from the last

abbrev after_ranges : Format → ℕ → List Range × List ℕ → Result Header Refusal
after_ranges format run ranges = Ok ((format, (run, ranges.0)), ranges.1)

abbrev after_some : Format → ℕ → List ℕ → ℕ → Result Header Refusal
after_some format run rest some = ranges_at some 1 rest >>= after_ranges format run

abbrev after_count : Format → ℕ → ℕ × List ℕ → Result Header Refusal
after_count format run count = where_true (nat_lt 0 count.0) BadRanges count.0 >>= after_some format run count.1

abbrev after_run : Format → ℕ × List ℕ → Result Header Refusal
after_run format run = number_at Short w32 run.1 >>= after_count format run.0

abbrev after_magic : Format × List ℕ → Result Header Refusal
after_magic start = number_at Short w64 start.1 >>= after_run start.0

-- the text of a header
abbrev pub header_text : Format × (ℕ × List Range) → List ℕ
header_text header = head_text_in header.0 header.1.0 (length header.1.1) ++ flat_map bounds_text header.1.1

pub header_takes : (bytes : List ℕ) (x : Header) → IsBytes bytes → part_header_at bytes ≡ Ok x → TakesText bytes (header_text x.0) x.1 × (x.0.1.0 < 2 ^ 64) × AreRanges x.0.1.1
unfolding part_header_at
header_takes bytes x fits e =
    let a = bind_ok (magic_at (part_magic First) (part_magic Second) bytes) after_magic x e in
    let format : Format = a.0.0 in
    let b = bind_ok (number_at Short w64 a.0.1) (after_run format) x a.2 in
    let c = bind_ok (number_at Short w32 b.0.1) (after_count format b.0.0) x b.2 in
    let d = bind_ok (where_true (nat_lt 0 c.0.0) BadRanges c.0.0) (after_some format b.0.0 c.0.1) x c.2 in
    let r = bind_ok (ranges_at d.0 1 c.0.1) (after_ranges format b.0.0) x d.2 in
    let made : Header = ((format, (b.0.0, r.0.0)), r.0.1) in
    let some = where_ok (nat_lt 0 c.0.0) BadRanges c.0.0 d.0 d.1 in
    let magic = part_magic_takes bytes format a.0.1 fits a.1 in
    let run = number_takes Short w64 (2 ^ 64) wide64 a.0.1 b.0.0 b.0.1 magic.rest_fits b.1 in
    let count = number_takes Short w32 (2 ^ 32) wide32 b.0.1 c.0.0 c.0.1 run.0.rest_fits c.1 in
    let ranges = ranges_take d.0 1 c.0.1 r.0 count.0.rest_fits r.1 in
    let many : c.0.0 ≡ length r.0.0 = some.1 ∙ sym ranges.1 in
    let positive : 0 < c.0.0 = grind (arith, some.0, nat_tests) in
    let counted : TakesText b.0.1 (to_be_bytes w32 (length r.0.0)) c.0.1 = subst (λ (m : ℕ). TakesText b.0.1 (to_be_bytes w32 m) c.0.1) many count.0 in
    let all = TakesText-then bytes (part_magic format ++ (to_be_bytes w64 b.0.0 ++ to_be_bytes w32 (length r.0.0))) c.0.1 (flat_map bounds_text r.0.0) r.0.1
    (TakesText-then bytes (part_magic format) a.0.1 (to_be_bytes w64 b.0.0 ++ to_be_bytes w32 (length r.0.0)) c.0.1 magic
    (TakesText-then a.0.1 (to_be_bytes w64 b.0.0) b.0.1 (to_be_bytes w32 (length r.0.0)) c.0.1 run.0 counted)) ranges.0 in
    subst (λ (y : Header). TakesText bytes (header_text y.0) y.1 × (y.0.1.0 < 2 ^ 64) × AreRanges y.0.1.1) {x = made} (ok_is made x r.2)
    (all, run.1, (omega (arith, many, positive), ranges.2))

pub header_again : (format : Format) (run : ℕ) (ranges : List Range) (rest : List ℕ) → run < 2 ^ 64 → AreRanges ranges → part_header_at (header_text (format, (run, ranges)) ++ rest) ≡ Ok ((format, (run, ranges)), rest)
unfolding part_header_at
header_again format run ranges rest fits apart =
    let from_ranges = flat_map bounds_text ranges ++ rest in
    let from_count = to_be_bytes w32 (length ranges) ++ from_ranges in
    let from_run = to_be_bytes w64 run ++ from_count in
    let few = few_ranges 1 ranges apart.1 in
    let some : nat_lt 0 (length ranges) ≡ true = grind (arith, apart.0, nat_tests) in
    ap part_header_at (grouped (part_magic format) (to_be_bytes w64 run) (to_be_bytes w32 (length ranges)) (flat_map bounds_text ranges) rest)
    ∙ rw (
      part_magic_again format from_run,
      number_again Short w64 (2 ^ 64) wide64 run from_count fits,
      number_again Short w32 (2 ^ 32) wide32 (length ranges) from_ranges (omega (arith, few)),
      some,
      ranges_again 1 ranges rest apart.1,
    ) refl
  where
    grouped : (m r c rs rest : List ℕ) → (((m ++ (r ++ c)) ++ rs) ++ rest) ≡ m ++ (r ++ (c ++ (rs ++ rest)))
    grouped m r c rs rest = simp append_assoc

-- ---- what is read was written

-- the pieces of the text, as they are taken
whole : (format : Format) (x : PartFields) (bytes r3 r4 : List ℕ) → TakesText bytes (header_text (format, (x.run, x.ranges))) r3 → TakesText r3 (flat_map (triple_text_in format) x.entries ++ end_mark) r4 → TakesText r4 (to_be_bytes w32 (length x.entries)) [] → bytes ≡ fields_text format x
whole format x bytes r3 r4 t3 t4 t5 =
    let head = head_text_in format x.run (length x.ranges) in
    let ranges = flat_map bounds_text x.ranges in
    let entries = flat_map (triple_text_in format) x.entries ++ end_mark in
    let total = to_be_bytes w32 (length x.entries) in
    let all = TakesText-then bytes (head ++ ranges) r3 (entries ++ total) [] t3 (TakesText-then r3 entries r4 total [] t4 t5) in
    all.parts ∙ append-nil ((head ++ ranges) ++ (entries ++ total)) ∙ grouped head ranges (flat_map (triple_text_in format) x.entries) end_mark total
  where
    grouped : (h rs es k t : List ℕ) → ((h ++ rs) ++ ((es ++ k) ++ t)) ≡ h ++ (rs ++ (es ++ (k ++ t)))
    grouped h rs es k t = simp append_assoc

-- the bytes are the text of the fields in one of the formats
abbrev pub IsFieldsText : List ℕ → PartFields → Type 0
IsFieldsText bytes x = (format : Format) × IsPartFields format x × (bytes ≡ fields_text format x)

pub fields_take : (bytes : List ℕ) (x : PartFields) → IsBytes bytes → part_fields_at bytes ≡ Ok x → IsFieldsText bytes x
unfolding part_fields_at
fields_take bytes x fits e =
    let h = bind_ok (part_header_at bytes) after_header x e in
    let format : Format = h.0.0.0 in
    let s = bind_ok (part_entries_at format (length h.0.1) h.0.0.1.1 [] h.0.1) (after_entries h.0.0.1.0 h.0.0.1.1) x h.2 in
    let n = bind_ok (number_at Short w32 s.0.1) (after_total h.0.0.1.0 h.0.0.1.1 s.0.0) x s.2 in
    let k = bind_ok (where_true (eqb n.0.0 (length s.0.0)) BadLength n.0.1) (after_rest h.0.0.1.0 h.0.0.1.1 s.0.0) x n.2 in
    let made : PartFields = record { run = h.0.0.1.0; ranges = h.0.0.1.1; entries = s.0.0 } in
    let counted = where_ok (eqb n.0.0 (length s.0.0)) BadLength n.0.1 k.0 k.1 in
    let ended = where_ok (eqb (length k.0) 0) Trailing made x k.2 in
    let header = header_takes bytes h.0 fits h.1 in
    let entries = entries_take format (length h.0.1) h.0.0.1.1 [] h.0.1 s.0 header.0.rest_fits s.1 in
    let total = number_takes Short w32 (2 ^ 32) wide32 s.0.1 n.0.0 n.0.1 entries.0.rest_fits n.1 in
    let total_is : n.0.0 ≡ length s.0.0 = eqb-true n.0.0 (length s.0.0) counted.0 in
    let nothing : n.0.1 ≡ [] = counted.1 ∙ nil_from_length k.0 (eqb-true (length k.0) 0 ended.0) in
    subst (λ (y : PartFields). IsFieldsText bytes y) {x = made} ended.1 (
      format,
      record { run = header.1; apart = header.2; entries = entries.1; limit = omega (arith, total_is, total.1) },
      whole format made bytes h.0.1 s.0.1 header.0 entries.0
          (subst (λ (m : ℕ). TakesText s.0.1 (to_be_bytes w32 m) []) total_is (subst (λ (l : List ℕ). TakesText s.0.1 (to_be_bytes w32 n.0.0) l) nothing total.0)),
    )

-- ---- what was written is read

pub fields_again : (format : Format) (x : PartFields) → IsPartFields format x → part_fields_at (fields_text format x) ≡ Ok x
unfolding part_fields_at
fields_again format x lawful =
    let total = to_be_bytes w32 (length x.entries) in
    let marked = flat_map (triple_text_in format) x.entries ++ end_mark in
    let same : eqb (length x.entries) (length x.entries) ≡ true = grind (arith, nat_tests) in
    let last : number_at Short w32 total ≡ Ok (length x.entries, []) = number_again Short w32 (2 ^ 32) wide32 (length x.entries) [] (omega (arith, lawful.limit)) in
    let turns : length x.entries < length (marked ++ total) = omega (arith, few_entries format x.entries, length-append (flat_map (triple_text_in format) x.entries) end_mark, length-append marked total) in
    ap part_fields_at (sym (grouped (head_text_in format x.run (length x.ranges)) (flat_map bounds_text x.ranges) (flat_map (triple_text_in format) x.entries) end_mark total))
    ∙ rw (
      header_again format x.run x.ranges (marked ++ total) lawful.run lawful.apart,
      entries_again format (length (marked ++ total)) 1 x.ranges lawful.apart.1 [] x.entries total lawful.entries turns,
    ) (ap (λ (r : Result (ℕ × List ℕ) Refusal). r >>= after_total x.run x.ranges x.entries) last ∙ rw same refl)
  where
    grouped : (h rs es k t : List ℕ) → ((h ++ rs) ++ ((es ++ k) ++ t)) ≡ h ++ (rs ++ (es ++ (k ++ t)))
    grouped h rs es k t = simp append_assoc
