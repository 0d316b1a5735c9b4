-- If the entries of a text end without a fault, they are the part that is decoded of the whole text, if it has fewer than 2^64 entries.
use Rattle.std.proofs.Common.{◌≡◌, ℕ, zero, suc, ◌+◌, ◌^◌, ◌<◌, eqb, cond, Bool, true, false, List, [], ◌∷◌, ◌++◌, length, Option, Some, None, Result, Ok, Err, refl, sym, ap, subst, ◌∙◌, append_assoc, append-nil, arith}
use Rattle.std.specs.Int.{w32}
use Rattle.std.proofs.lemmas.List.{length-append}
use Rattle.pc_io.specs.Counted.{one_more}
use Rattle.pc_io.specs.Fields.{◌>>=◌, where_true, number_at}
use Rattle.pc_types.specs.declared.Refusal.{Refusal}
use Rattle.pc_types.specs.declared.Refusal.TheVariants.{Short, BadLength, Trailing}
use Rattle.pc_types.specs.declared.Triple.{Triple}
use Rattle.pc_io.specs.declared.formats.Format.{Format}
use Rattle.pc_io.proofs.FieldLaws.{ok_is}
use Rattle.pc_part.specs.declared.ranges.Range.{Range}
use Rattle.pc_part.specs.Reading.{next_entry_at, entries_from, part_entries_at, part_header_at, PartFields, part_fields_at, part_of_fields, part_at}
use Rattle.pc_merge.specs.Coming.{Coming, ended, refused}
use Rattle.pc_streams.specs.Coming.{part_end_at, coming_from, coming_after_key, coming_behind, part_coming, part_header}
use Rattle.pc_stream_join.specs.Joining.{file_of_entries}

abbrev fields : ℕ × List Range → List Triple → PartFields
fields header entries = record { run = header.0; ranges = header.1; entries = entries }

abbrev read_as : ℕ × List Range → List Triple → Result PartFields Refusal
read_as header entries = Ok (fields header entries)

-- ---- the steps of reading, from the last

abbrev after_rest : ℕ × List Range → List Triple → List ℕ → Result PartFields Refusal
after_rest header entries rest = where_true (eqb (length rest) 0) Trailing (fields header entries)

abbrev after_total : ℕ × List Range → List Triple → ℕ × List ℕ → Result PartFields Refusal
after_total header entries total = where_true (eqb total.0 (length entries)) BadLength total.1 >>= after_rest header entries

abbrev after_front : ℕ × List Range → List Triple → List Triple × List ℕ → Result PartFields Refusal
after_front header front entries = number_at Short w32 entries.1 >>= after_total header (front ++ entries.0)

-- the end
end_is : (header : ℕ × List Range) (front : List Triple) (r : Result (ℕ × List ℕ) Refusal) → (part_end_at (length front) r).fault ≡ None → (r >>= after_total header (front ++ [])) ≡ read_as header (front ++ (part_end_at (length front) r).entries)
end_is header front (Err why) sound = cc
end_is header front (Ok total) sound =
    let none : length (front ++ []) ≡ length front = ap length (append-nil front) in
    let same : eqb total.0 (length (front ++ [])) ≡ eqb total.0 (length front) = ap (eqb total.0) none in
    ap (λ (t : Bool). where_true t BadLength total.1 >>= after_rest header (front ++ [])) same ∙ by (eqb total.0 (length front)) sound
  where
    nothing : (u : Bool) → (cond u ended (refused Trailing)).fault ≡ None → where_true u Trailing (fields header (front ++ [])) ≡ read_as header (front ++ (cond u ended (refused Trailing)).entries)
    nothing true f = refl
    nothing false f = cc

    by : (t : Bool) → (cond t (cond (eqb (length total.1) 0) ended (refused Trailing)) (refused BadLength)).fault ≡ None
        → (where_true t BadLength total.1 >>= after_rest header (front ++ [])) ≡ read_as header (front ++ (cond t (cond (eqb (length total.1) 0) ended (refused Trailing)) (refused BadLength)).entries)
    by true f = nothing (eqb (length total.1) 0) f
    by false f = cc

-- an entry more in front
entry_in_front : (header : ℕ × List Range) (front : List Triple) (entry : Triple) (r : Result (List Triple × List ℕ) Refusal) → ((r >>= λ behind. Ok (entry ∷ behind.0, behind.1)) >>= after_front header front) ≡ (r >>= after_front header (front ++ entry ∷ []))
entry_in_front header front entry (Err why) = refl
entry_in_front header front entry (Ok behind) = ap (λ (es : List Triple). number_at Short w32 behind.1 >>= after_total header es) (sym (append_assoc front (entry ∷ []) behind.0))

-- the rest of entries with some in front, if that is without a fault and few, is the decoded rest
abbrev Reads : ℕ × List Range → List Triple → Coming → Result (List Triple × List ℕ) Refusal → Type 0
Reads header front coming r = coming.fault ≡ None → length front + length coming.entries < 2 ^ 64 → (r >>= after_front header front) ≡ read_as header (front ++ coming.entries)

abbrev ReadsAt : Format → ℕ → ℕ × List Range → List Triple → List ℕ → List ℕ → Type 0
ReadsAt format turns header front last bytes = Reads header front (coming_after_key format turns header.1 (length front) last bytes) (part_entries_at format turns header.1 last bytes)

grows : (n m k : ℕ) → m ≡ suc n → n + suc k < 2 ^ 64 → one_more n ≡ m
grows n m k is few = omega arith

-- one step
step : (format : Format) (turns : ℕ) (header : ℕ × List Range) (front : List Triple) → ((more : List Triple) (key rest : List ℕ) → ReadsAt format turns header more key rest) → (r : Result (Option Triple × List ℕ) Refusal)
    → Reads header front (coming_from (coming_after_key format turns header.1 (one_more (length front))) (length front) r) (r >>= λ next. entries_from (part_entries_at format turns header.1) next.0 next.1)
step format turns header front again (Err why) sound few = cc
step format turns header front again (Ok (None, rest)) sound few = end_is header front (number_at Short w32 rest) sound
step format turns header front again (Ok (Some entry, rest)) sound few =
    let many : length (front ++ entry ∷ []) ≡ suc (length front) = omega (arith, length-append front (entry ∷ [])) in
    let more : one_more (length front) ≡ length (front ++ entry ∷ []) = grows (length front) (length (front ++ entry ∷ [])) (length (coming_after_key format turns header.1 (one_more (length front)) entry.key rest).entries) many few in
    entry_in_front header front entry (part_entries_at format turns header.1 entry.key rest)
    ∙ again (front ++ entry ∷ []) entry.key rest
    (subst (λ (count : ℕ). (coming_after_key format turns header.1 count entry.key rest).fault ≡ None) more sound)
    (subst (λ (count : ℕ). length (front ++ entry ∷ []) + length (coming_after_key format turns header.1 count entry.key rest).entries < 2 ^ 64) more (omega (arith, many, few)))
    ∙ ap (λ (count : ℕ). read_as header ((front ++ entry ∷ []) ++ (coming_after_key format turns header.1 count entry.key rest).entries)) (sym more)
    ∙ ap (λ (es : List Triple). read_as header es) (append_assoc front (entry ∷ []) (coming_after_key format turns header.1 (one_more (length front)) entry.key rest).entries)

entries_come : (format : Format) (turns : ℕ) (header : ℕ × List Range) (front : List Triple) (last bytes : List ℕ) → ReadsAt format turns header front last bytes
unfolding part_entries_at coming_after_key
entries_come format zero header front last bytes sound few = cc
entries_come format (suc turns) header front last bytes sound few = step format turns header front (entries_come format turns header) (next_entry_at format header.1 last bytes) sound few

-- the part
pub part_comes : (bytes : List ℕ) (header : ℕ × List Range) → part_header bytes ≡ Ok header → (part_coming bytes).fault ≡ None → length (part_coming bytes).entries < 2 ^ 64 → part_at bytes ≡ Ok (file_of_entries header.0 header.1 (part_coming bytes).entries)
unfolding part_fields_at
part_comes bytes header = by (part_header_at bytes)
  where
    by : (r : Result ((Format × (ℕ × List Range)) × List ℕ) Refusal) → (r >>= λ h. Ok h.0.1) ≡ Ok header → (coming_behind r).fault ≡ None → length (coming_behind r).entries < 2 ^ 64
        → ((r >>= λ h. (part_entries_at h.0.0 (length h.1) h.0.1.1 [] h.1 >>= after_front h.0.1 [])) >>= λ part. Ok (part_of_fields part)) ≡ Ok (file_of_entries header.0 header.1 (coming_behind r).entries)
    by (Err why) is sound few = cc
    by (Ok (h, rest)) is sound few =
        let taken = entries_come h.0 (length rest) h.1 [] [] rest sound (omega (arith, few)) in
        ap (λ (p : Result PartFields Refusal). p >>= λ part. Ok (part_of_fields part)) taken
        ∙ ap (λ (g : ℕ × List Range). Ok (file_of_entries g.0 g.1 (coming_after_key h.0 (length rest) h.1.1 0 [] rest).entries)) (ok_is h.1 header is)
