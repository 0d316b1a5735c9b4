-- What is to come of a text is what is read of it in one piece.
use Rattle.std.proofs.Common.{◌≡◌, ℕ, zero, suc, ◌-◌, ◌^◌, ◌<◌, eqb, cond, Bool, true, false, List, [], ◌∷◌, ◌++◌, length, drop, Option, Some, None, Result, Ok, Err, refl, sym, ap, subst, ◌∙◌, append_assoc, append-nil, arith, inl, inr}
use Rattle.std.specs.Prelude.{min}
use Rattle.std.specs.List.{All}
use Rattle.std.specs.Int.{w32}
use Rattle.std.proofs.lemmas.Bool.{cases_lt}
use Rattle.std.proofs.lemmas.Bool.Decides.{nat_tests}
use Rattle.std.proofs.lemmas.List.{length-append, drop_at, get_or_past}
use Rattle.pc_io.specs.Counted.{one_more}
use Rattle.pc_types.specs.Bytes.{IsBytes}
use Rattle.pc_io.specs.Fields.{◌>>=◌, where_true, number_at}
use Rattle.pc_types.specs.declared.Refusal.{Refusal}
use Rattle.pc_types.specs.declared.Refusal.TheVariants.{Short, BadLength, Trailing}
use Rattle.pc_types.specs.declared.Triple.{Triple}
use Rattle.pc_io.specs.declared.formats.Format.{Format}
use Rattle.pc_types.proofs.ByteLaws.{IsBytes-drop}
use Rattle.pc_io.proofs.FieldLaws.{wide32, number_takes}
use Rattle.pc_part.specs.declared.ranges.Range.{Range}
use Rattle.pc_part.specs.Reading.{next_entry_at, entries_from, part_entries_at, part_header_at, PartFields, part_fields_at, part_of_fields}
use Rattle.pc_part.proofs.LocalSteps.{next_entry_local, header_local}
use Rattle.pc_merge.specs.Coming.{Coming, ended, refused}
use Rattle.pc_streams.specs.Coming.{part_end_at, coming_from, coming_after_key, coming_behind, part_coming, part_header}
use Rattle.pc_streams.specs.Laws.{FieldsCome, PartsCome, fields_of, fields_coming}

bytes_of : (bytes : List ℕ) → All (λ byte. byte < 256) bytes → IsBytes bytes
bytes_of bytes h i = elim (cases_lt i (length bytes)) [
  | inl lt ↦ h i 0 lt
  | inr le ↦ rw (get_or_past bytes i 0 le) (omega arith)
]

-- the rest after a text of bytes is bytes
bytes_behind : (bytes text rest : List ℕ) → bytes ≡ text ++ rest → IsBytes bytes → IsBytes rest
bytes_behind bytes text rest is fits = subst IsBytes (ap (drop (length text)) is ∙ drop_at text rest (length text) refl) (IsBytes-drop (length text) bytes fits)

-- ---- counts

abbrev capped : ℕ → ℕ
capped n = min n (2 ^ 64 - 1)

one_more_is : (n m : ℕ) → m ≡ suc n → one_more (capped n) ≡ capped m
one_more_is n m is = omega arith

same_test : (total n : ℕ) → total < 2 ^ 32 → eqb total (capped n) ≡ eqb total n
same_test total n small = grind (arith, nat_tests)

-- ---- the steps of reading, from the last

abbrev after_rest : ℕ × List Range → List Triple → List ℕ → Result PartFields Refusal
after_rest header entries rest = where_true (eqb (length rest) 0) Trailing (record { run = header.0; ranges = header.1; entries = entries })

abbrev after_total : ℕ × List Range → List Triple → ℕ × List ℕ → Result PartFields Refusal
after_total header entries total = where_true (eqb total.0 (length entries)) BadLength total.1 >>= after_rest header entries

abbrev after_front : ℕ × List Range → List Triple → List Triple × List ℕ → Result PartFields Refusal
after_front header front entries = number_at Short w32 entries.1 >>= after_total header (front ++ entries.0)

-- the fields of some entries and what is to come after them
abbrev with_coming : ℕ × List Range → List Triple → Coming → Result PartFields Refusal
with_coming header front coming = fields_of header (front ++ coming.entries) coming.fault

-- the end
end_is : (header : ℕ × List Range) (front : List Triple) (r : Result (ℕ × List ℕ) Refusal) → ((total : ℕ × List ℕ) → r ≡ Ok total → total.0 < 2 ^ 32) → (r >>= after_total header (front ++ [])) ≡ with_coming header front (part_end_at (capped (length front)) r)
end_is header front (Err why) small = refl
end_is header front (Ok total) small =
    let none : length (front ++ []) ≡ length front = ap length (append-nil front) in
    let same : eqb total.0 (length (front ++ [])) ≡ eqb total.0 (capped (length front)) = ap (eqb total.0) none ∙ sym (same_test total.0 (length front) (small total refl)) in
    ap (λ (t : Bool). where_true t BadLength total.1 >>= after_rest header (front ++ [])) same ∙ by (eqb total.0 (capped (length front)))
  where
    nothing : (u : Bool) → where_true u Trailing (record { run = header.0; ranges = header.1; entries = front ++ [] }) ≡ with_coming header front (cond u ended (refused Trailing))
    nothing true = refl
    nothing false = refl

    by : (t : Bool) → (where_true t BadLength total.1 >>= after_rest header (front ++ [])) ≡ with_coming header front (cond t (cond (eqb (length total.1) 0) ended (refused Trailing)) (refused BadLength))
    by true = nothing (eqb (length total.1) 0)
    by false = refl

-- an entry more in front
entry_in_front : (header : ℕ × List Range) (front : List Triple) (entry : Triple) (r : Result (List Triple × List ℕ) Refusal) → ((r >>= λ behind. Ok (entry ∷ behind.0, behind.1)) >>= after_front header front) ≡ (r >>= after_front header (front ++ entry ∷ []))
entry_in_front header front entry (Err why) = refl
entry_in_front header front entry (Ok behind) = ap (λ (es : List Triple). number_at Short w32 behind.1 >>= after_total header es) (sym (append_assoc front (entry ∷ []) behind.0))

-- what is read of entries with some in front, and what is to come of them
abbrev AreAlike : Format → ℕ → ℕ × List Range → List Triple → List ℕ → List ℕ → Type 0
AreAlike format turns header front last bytes = (part_entries_at format turns header.1 last bytes >>= after_front header front) ≡ with_coming header front (coming_after_key format turns header.1 (capped (length front)) last bytes)

-- one step
step_alike : (format : Format) (turns : ℕ) (header : ℕ × List Range) (front : List Triple) (last bytes : List ℕ) → IsBytes bytes → ((more : List Triple) (key rest : List ℕ) → IsBytes rest → AreAlike format turns header more key rest)
    → (r : Result (Option Triple × List ℕ) Refusal) → next_entry_at format header.1 last bytes ≡ r
    → ((r >>= λ next. entries_from (part_entries_at format turns header.1) next.0 next.1) >>= after_front header front) ≡ with_coming header front (coming_from (coming_after_key format turns header.1 (one_more (capped (length front)))) (capped (length front)) r)
step_alike format turns header front last bytes fits again (Err why) is = refl
step_alike format turns header front last bytes fits again (Ok (None, rest)) is =
    let back = (next_entry_local format header.1 last).back bytes None rest is in
    let left = bytes_behind bytes back.0 rest back.1 fits in
    end_is header front (number_at Short w32 rest) (λ total read. (number_takes Short w32 (2 ^ 32) wide32 rest total.0 total.1 left read).1)
step_alike format turns header front last bytes fits again (Ok (Some entry, rest)) is =
    let back = (next_entry_local format header.1 last).back bytes (Some entry) rest is in
    let left = bytes_behind bytes back.0 rest back.1 fits in
    let many : length (front ++ entry ∷ []) ≡ suc (length front) = omega (arith, length-append front (entry ∷ [])) in
    let coming = coming_after_key format turns header.1 (one_more (capped (length front))) entry.key rest in
    entry_in_front header front entry (part_entries_at format turns header.1 entry.key rest)
    ∙ again (front ++ entry ∷ []) entry.key rest left
    ∙ ap (λ (count : ℕ). with_coming header (front ++ entry ∷ []) (coming_after_key format turns header.1 count entry.key rest)) (sym (one_more_is (length front) (length (front ++ entry ∷ [])) many))
    ∙ ap (λ (es : List Triple). fields_of header es coming.fault) (append_assoc front (entry ∷ []) coming.entries)

entries_come : (format : Format) (turns : ℕ) (header : ℕ × List Range) (front : List Triple) (last bytes : List ℕ) → IsBytes bytes → AreAlike format turns header front last bytes
unfolding part_entries_at coming_after_key
entries_come format zero header front last bytes fits = refl
entries_come format (suc turns) header front last bytes fits = step_alike format turns header front last bytes fits (entries_come format turns header) (next_entry_at format header.1 last bytes) refl

pub fields_come : FieldsCome
unfolding part_fields_at
fields_come bytes all = by (part_header_at bytes) refl
  where
    by : (r : Result ((Format × (ℕ × List Range)) × List ℕ) Refusal) → part_header_at bytes ≡ r
        → (r >>= λ header. (part_entries_at header.0.0 (length header.1) header.0.1.1 [] header.1 >>= after_front header.0.1 [])) ≡ ((r >>= λ header. Ok header.0.1) >>= λ header. fields_coming header (coming_behind r))
    by (Err why) is = refl
    by (Ok (header, rest)) is =
        let back = header_local.back bytes header rest is in
        entries_come header.0 (length rest) header.1 [] [] rest (bytes_behind bytes back.0 rest back.1 (bytes_of bytes all))

regroup : {A B C : Type 0} (r : Result A Refusal) (f : A → Result B Refusal) (g : B → Result C Refusal) → ((r >>= f) >>= g) ≡ (r >>= λ x. (f x >>= g))
regroup (Ok x) f g = refl
regroup (Err e) f g = refl

pub parts_come : PartsCome
parts_come bytes all =
    ap (λ (r : Result PartFields Refusal). r >>= λ part. Ok (part_of_fields part)) (fields_come bytes all)
    ∙ regroup (part_header bytes) (λ header. fields_coming header (part_coming bytes)) (λ part. Ok (part_of_fields part))
