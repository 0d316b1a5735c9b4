-- A base file is read from its text alone, and its text is read as it.
use Rattle.std.proofs.Common.{◌≡◌, ℕ, ◌^◌, ◌<◌, ◌≤◌, nat_le, eqb, true, List, [], ◌∷◌, ◌++◌, length, Result, Ok, Err, refl, sym, ap, subst, ◌∙◌, append_assoc, arith}
use Rattle.std.specs.Prelude.{IfOk}
use Rattle.std.specs.List.{All, AllByRecursion, flat_map}
use Rattle.std.specs.Int.{w32, w64, to_be_bytes}
use Rattle.std.proofs.lemmas.Bool.{eqb-true}
use Rattle.std.proofs.lemmas.Bool.Decides.{nat_tests}
use Rattle.std.proofs.lemmas.List.{append-nil, nil_from_length}
use Rattle.std.proofs.lemmas.List.Elements.{All-from_recursion}
use Rattle.pc_types.specs.declared.Refusal.{Refusal}
use Rattle.pc_types.specs.declared.Refusal.TheVariants.{Short, BadRanges, Trailing}
use Rattle.pc_types.specs.Limits.{IsKey}
use Rattle.pc_io.specs.declared.formats.Format.{Format}
use Rattle.pc_io.specs.declared.formats.Format.TheVariants.{First, Second}
use Rattle.pc_io.specs.Fields.{◌>>=◌, Gives, HasKey, where_true, number_at, magic_at}
use Rattle.pc_io.proofs.FieldLaws.{bind_ok, where_ok, ok_is, TakesText-then, wide32, wide64, number_takes, number_again}
use Rattle.pc_types.specs.Bytes.{IsBytes}
use Rattle.pc_io.specs.FieldForms.{TakesText}
use Rattle.pc_model.specs.Maps as map_of
use Rattle.pc_model.specs.Database.{KeysRise, database_of}
use Rattle.pc_model.specs.Files.{BaseFile}
use Rattle.pc_model.proofs.PairMapLaws as pairs_of
use Rattle.pc_part.specs.Parts.{IsWithinLimit}
use Rattle.pc_bases.specs.Lawful.{IsPair, IsBaseFile, HasBaseText, IsBaseText}
use Rattle.pc_bases.specs.Reading.{pairs_at, BaseFields, base_fields_at, base_of_fields, base_at}
use Rattle.pc_bases.specs.Texts.{base_magic, base_head_text_in, pair_text_in, base_text_in}
use Rattle.pc_bases.proofs.BaseTexts.{base_parts_in, base_lawful}
use Rattle.pc_bases.proofs.Magics.{base_magic_takes, base_magic_again}
use Rattle.pc_part.proofs.ListLaws.{by_recursion}
use Rattle.pc_bases.proofs.ReadPairs.{PairsFrom, pairs_take, pairs_again}
use Rattle.pc_part.proofs.RisingKeyLaws.{RisesFrom, keys_rise, rises_from_empty}

abbrev Pair : Type 0
Pair = List ℕ × List ℕ

-- the text of a base's fields
abbrev fields_text : Format → BaseFields → List ℕ
fields_text format x = base_head_text_in format x.run x.point (length x.pairs) ++ flat_map (pair_text_in format) x.pairs

-- the fields of a base, of which the format has a text
pub record IsBaseFields (format : Format) (x : BaseFields) : Type 0 where
  pub run : x.run < 2 ^ 64
  pub point : x.point ≤ 65535
  pub pairs : PairsFrom format [] x.pairs
  pub limit : IsWithinLimit x.pairs

-- ---- the steps of reading, from the last

abbrev after_pairs : ℕ → ℕ → List Pair × List ℕ → Result BaseFields Refusal
after_pairs run point pairs = where_true (eqb (length pairs.1) 0) Trailing (record { run = run; point = point; pairs = pairs.0 })

abbrev after_count : Format → ℕ → ℕ → ℕ × List ℕ → Result BaseFields Refusal
after_count format run point count = pairs_at format count.0 [] count.1 >>= after_pairs run point

abbrev after_lawful : Format → ℕ → List ℕ → ℕ → Result BaseFields Refusal
after_lawful format run rest lawful = number_at Short w32 rest >>= after_count format run lawful

abbrev after_point : Format → ℕ → ℕ × List ℕ → Result BaseFields Refusal
after_point format run point = where_true (nat_le point.0 65535) BadRanges point.0 >>= after_lawful format run point.1

abbrev after_run : Format → ℕ × List ℕ → Result BaseFields Refusal
after_run format run = number_at Short w32 run.1 >>= after_point format run.0

abbrev after_magic : Format × List ℕ → Result BaseFields Refusal
after_magic start = number_at Short w64 start.1 >>= after_run start.0

grouped : (m r p c ps : List ℕ) → (m ++ (r ++ (p ++ (c ++ ps)))) ≡ (m ++ (r ++ (p ++ c))) ++ ps
grouped m r p c ps = simp append_assoc

-- the pieces of the text, as they are taken
whole : (format : Format) (x : BaseFields) (bytes r0 r1 r2 r3 : List ℕ) → TakesText bytes (base_magic format) r0 → TakesText r0 (to_be_bytes w64 x.run) r1 → TakesText r1 (to_be_bytes w32 x.point) r2 → TakesText r2 (to_be_bytes w32 (length x.pairs)) r3
    → TakesText r3 (flat_map (pair_text_in format) x.pairs) [] → bytes ≡ fields_text format x
whole format x bytes r0 r1 r2 r3 t0 t1 t2 t3 t4 =
    let magic = base_magic format in
    let run = to_be_bytes w64 x.run in
    let point = to_be_bytes w32 x.point in
    let count = to_be_bytes w32 (length x.pairs) in
    let pairs = flat_map (pair_text_in format) x.pairs in
    let all = TakesText-then bytes magic r0 (run ++ (point ++ (count ++ pairs))) [] t0
    (TakesText-then r0 run r1 (point ++ (count ++ pairs)) [] t1
    (TakesText-then r1 point r2 (count ++ pairs) [] t2
    (TakesText-then r2 count r3 pairs [] t3 t4))) in
    all.parts ∙ append-nil (magic ++ (run ++ (point ++ (count ++ pairs)))) ∙ grouped magic run point count pairs

-- the bytes are the text of the fields in one of the formats
abbrev IsFieldsText : List ℕ → BaseFields → Type 0
IsFieldsText bytes x = (format : Format) × IsBaseFields format x × (bytes ≡ fields_text format x)

fields_take : (bytes : List ℕ) (x : BaseFields) → IsBytes bytes → base_fields_at bytes ≡ Ok x → IsFieldsText bytes x
unfolding base_fields_at
fields_take bytes x fits e =
    let a = bind_ok (magic_at (base_magic First) (base_magic Second) bytes) after_magic x e in
    let format : Format = a.0.0 in
    let b = bind_ok (number_at Short w64 a.0.1) (after_run format) x a.2 in
    let c = bind_ok (number_at Short w32 b.0.1) (after_point format b.0.0) x b.2 in
    let d = bind_ok (where_true (nat_le c.0.0 65535) BadRanges c.0.0) (after_lawful format b.0.0 c.0.1) x c.2 in
    let n = bind_ok (number_at Short w32 c.0.1) (after_count format b.0.0 d.0) x d.2 in
    let p = bind_ok (pairs_at format n.0.0 [] n.0.1) (after_pairs b.0.0 d.0) x n.2 in
    let made : BaseFields = record { run = b.0.0; point = d.0; pairs = p.0.0 } in
    let limit = where_ok (nat_le c.0.0 65535) BadRanges c.0.0 d.0 d.1 in
    let ended = where_ok (eqb (length p.0.1) 0) Trailing made x p.2 in
    let magic = base_magic_takes bytes format a.0.1 fits a.1 in
    let run = number_takes Short w64 (2 ^ 64) wide64 a.0.1 b.0.0 b.0.1 magic.rest_fits b.1 in
    let point = number_takes Short w32 (2 ^ 32) wide32 b.0.1 c.0.0 c.0.1 run.0.rest_fits c.1 in
    let count = number_takes Short w32 (2 ^ 32) wide32 c.0.1 n.0.0 n.0.1 point.0.rest_fits n.1 in
    let pairs = pairs_take format n.0.0 [] n.0.1 p.0 count.0.rest_fits p.1 in
    let nothing : p.0.1 ≡ [] = nil_from_length p.0.1 (eqb-true (length p.0.1) 0 ended.0) in
    let within : c.0.0 ≤ 65535 = grind (arith, limit.0, nat_tests) in
    subst (λ (y : BaseFields). IsFieldsText bytes y) {x = made} ended.1 (
      format,
      record { run = run.1; point = subst (λ n. n ≤ 65535) {x = c.0.0} {y = d.0} limit.1 within; pairs = pairs.2; limit = omega (arith, pairs.1, count.1) },
      whole format made bytes a.0.1 b.0.1 c.0.1 n.0.1 magic run.0 (subst (λ (m : ℕ). TakesText b.0.1 (to_be_bytes w32 m) c.0.1) {x = c.0.0} {y = d.0} limit.1 point.0)
          (subst (λ (m : ℕ). TakesText c.0.1 (to_be_bytes w32 m) n.0.1) {x = n.0.0} {y = length p.0.0} (sym {a = length p.0.0} {b = n.0.0} pairs.1) count.0) (subst (λ (l : List ℕ). TakesText n.0.1 (flat_map (pair_text_in format) p.0.0) l) nothing pairs.0),
    )

fields_again : (format : Format) (x : BaseFields) → IsBaseFields format x → base_fields_at (fields_text format x) ≡ Ok x
unfolding base_fields_at
fields_again format x lawful =
    let pairs = flat_map (pair_text_in format) x.pairs in
    let from_count = to_be_bytes w32 (length x.pairs) ++ pairs in
    let from_point = to_be_bytes w32 x.point ++ from_count in
    let from_run = to_be_bytes w64 x.run ++ from_point in
    let within : nat_le x.point 65535 ≡ true = grind (arith, lawful.point, nat_tests) in
    let last : pairs_at format (length x.pairs) [] pairs ≡ Ok (x.pairs, []) = ap (pairs_at format (length x.pairs) []) (sym (append-nil pairs)) ∙ pairs_again format [] x.pairs [] lawful.pairs in
    ap base_fields_at (sym (grouped (base_magic format) (to_be_bytes w64 x.run) (to_be_bytes w32 x.point) (to_be_bytes w32 (length x.pairs)) pairs))
    ∙ rw (
      base_magic_again format from_run,
      number_again Short w64 (2 ^ 64) wide64 x.run from_point lawful.run,
      number_again Short w32 (2 ^ 32) wide32 x.point from_count (omega (arith, lawful.point)),
      within,
      number_again Short w32 (2 ^ 32) wide32 (length x.pairs) pairs (omega (arith, lawful.limit)),
      last,
    ) refl

-- ---- the base of the fields

pairs_rise : (format : Format) (last : List ℕ) (pairs : List Pair) → PairsFrom format last pairs → RisesFrom last pairs
pairs_rise format last [] h = tt
pairs_rise format last (p ∷ pairs) h = (h.0, pairs_rise format p.0 pairs h.3)

pairs_fit : (format : Format) (last : List ℕ) (pairs : List Pair) → PairsFrom format last pairs → AllByRecursion IsPair pairs
pairs_fit format last [] h = tt
pairs_fit format last (p ∷ pairs) h = (h.1, pairs_fit format p.0 pairs h.3)

pairs_have : (format : Format) (last : List ℕ) (pairs : List Pair) → PairsFrom format last pairs → AllByRecursion (λ pair. HasKey format pair.0) pairs
pairs_have format last [] h = tt
pairs_have format last (p ∷ pairs) h = (h.2, pairs_have format p.0 pairs h.3)

module _ (format : Format) (x : BaseFields) (lawful : IsBaseFields format x) where
  fields_rise : KeysRise x.pairs
  fields_rise = keys_rise [] x.pairs (pairs_rise format [] x.pairs lawful.pairs)

  of_fields_lawful : IsBaseFile (base_of_fields x)
  of_fields_lawful = base_lawful (base_of_fields x) x.run x.point x.pairs refl refl fields_rise refl lawful.run lawful.point lawful.limit (All-from_recursion IsPair x.pairs (pairs_fit format [] x.pairs lawful.pairs))

  of_fields_has : HasBaseText format (base_of_fields x)
  of_fields_has = subst (All (λ (pair : Pair). HasKey format pair.0)) (sym (pairs_of.entries_of x.pairs fields_rise)) (All-from_recursion (λ (pair : Pair). HasKey format pair.0) x.pairs (pairs_have format [] x.pairs lawful.pairs))

  of_fields_text : fields_text format x ≡ base_text_in format (base_of_fields x)
  of_fields_text = base_parts_in (base_of_fields x) x.run x.point x.pairs refl refl fields_rise refl format

-- the fields of bytes that are read are in order
pub base_fields : (bytes : List ℕ) (x : BaseFields) → IsBytes bytes → base_fields_at bytes ≡ Ok x → KeysRise x.pairs × IsWithinLimit x.pairs
base_fields bytes x fits e = let taken = fields_take bytes x fits e in (fields_rise taken.0 x taken.1, taken.1.limit)

-- ---- the fields of a base

pairs_from : (format : Format) (last : List ℕ) (pairs : List Pair) → RisesFrom last pairs → AllByRecursion IsPair pairs → AllByRecursion (λ pair. HasKey format pair.0) pairs → PairsFrom format last pairs
pairs_from format last [] h fit has = tt
pairs_from format last (p ∷ pairs) h fit has = (h.0, fit.0, has.0, pairs_from format p.0 pairs h.1 fit.1 has.1)

keys_fit : (pairs : List Pair) → AllByRecursion IsPair pairs → AllByRecursion (λ e. IsKey e.0) pairs
keys_fit [] fit = tt
keys_fit (p ∷ pairs) fit = (fit.0.0, keys_fit pairs fit.1)

module _ (format : Format) (base : BaseFile) (lawful : IsBaseFile base) (has : HasBaseText format base) where
  abbrev fields_of : BaseFields
  fields_of = record { run = base.run; point = base.point; pairs = base.pairs.entries }

  fit : AllByRecursion IsPair base.pairs.entries
  fit = by_recursion IsPair base.pairs.entries lawful.pairs

  rise : KeysRise base.pairs.entries
  rise = pairs_of.tested base.pairs.rises

  has_each : AllByRecursion (λ pair. HasKey format pair.0) base.pairs.entries
  has_each = by_recursion (λ (pair : Pair). HasKey format pair.0) base.pairs.entries has

  fields_lawful : IsBaseFields format fields_of
  fields_lawful = record { run = lawful.run; point = lawful.point; pairs = pairs_from format [] base.pairs.entries (rises_from_empty base.pairs.entries (keys_fit base.pairs.entries fit) rise) fit has_each; limit = lawful.limit }

  pairs_back : database_of base.pairs.entries ≡ base.pairs
  pairs_back = map_of.same_by_entries _ _ (pairs_of.entries_of base.pairs.entries rise)

  base_back : base_of_fields fields_of ≡ base
  base_back = λ i. record { run = base.run; point = base.point; pairs = pairs_back i }

  -- a base's text is read as the base
  pub base_again : base_at (base_text_in format base) ≡ Ok base
  base_again =
      let text : fields_text format fields_of ≡ base_text_in format base = of_fields_text format fields_of fields_lawful ∙ ap (base_text_in format) base_back in
      let read : base_fields_at (base_text_in format base) ≡ Ok fields_of = ap base_fields_at (sym text) ∙ fields_again format fields_of fields_lawful in
      rw read (ap (λ (b : BaseFile). Ok b) base_back)

-- bytes that are read are a text of what is read
pub base_takes : (bytes : List ℕ) (base : BaseFile) → IsBytes bytes → base_at bytes ≡ Ok base → IsBaseFile base × IsBaseText bytes base
base_takes bytes base fits e =
    let a = bind_ok (base_fields_at bytes) (λ fields. Ok (base_of_fields fields)) base e in
    let x : BaseFields = a.0 in
    let taken = fields_take bytes x fits a.1 in
    let format : Format = taken.0 in
    subst (λ (b : BaseFile). IsBaseFile b × IsBaseText bytes b) {x = base_of_fields x} (ok_is (base_of_fields x) base a.2)
    (of_fields_lawful format x taken.1, (format, of_fields_has format x taken.1, taken.2 ∙ of_fields_text format x taken.1))

-- the same of a call's answer
pub base_found : (bytes : List ℕ) (r : Result BaseFile Refusal) → IsBytes bytes → Gives (λ base. base) r (base_at bytes) → IfOk r (λ base. IsBaseFile base × IsBaseText bytes base)
base_found bytes (Ok base) fits given = base_takes bytes base fits given
base_found bytes (Err e) fits given = tt

-- a base whose text the bytes are is read of them
pub text_is_read : (bytes : List ℕ) (base : BaseFile) → IsBaseFile base → IsBaseText bytes base → base_at bytes ≡ Ok base
text_is_read bytes base lawful text = ap base_at text.2 ∙ base_again text.0 base lawful text.1
