-- The text of a part file that is truncated.
use Rattle.std.proofs.Common.{◌≡◌, ℕ, zero, suc, ◌<◌, ◌≤◌, List, [], ◌∷◌, ◌++◌, length, take, Option, Some, None, Ok, Err, refl, arith}
use Rattle.std.proofs.lemmas.List.{length-append}
use Rattle.std.specs.Prelude.{◌==◌}
use Rattle.std.specs.Int.{w32}
use Rattle.pc_types.specs.declared.Refusal.TheVariants.{Short, BadLength}
use Rattle.pc_io.proofs.CutFieldLaws.{IsCut, ReadsAlike, Never, short_is_cut, cut_then, cut_where, cut_end, cut_is_short, number_cut}
use Rattle.pc_io.proofs.FieldLaws.{bind_ok}
use Rattle.pc_model.specs.Files.{File}
use Rattle.pc_types.specs.declared.Triple.{Triple}
use Rattle.pc_io.specs.declared.formats.Format.{Format}
use Rattle.pc_part.specs.declared.ranges.Range.{Range}
use Rattle.pc_part.specs.Lawful.{IsPartFile, HasPart}
use Rattle.pc_part.specs.Reading.{next_key_at, next_entry_at, entries_from, part_entries_at, part_header_at, PartFields, part_fields_at, part_of_fields, part_at}
use Rattle.pc_part.specs.Texts.{part_text_in}
use Rattle.pc_part.proofs.LocalSteps.{local_next_key, next_entry_local, header_local, local_cut}
use Rattle.pc_part.proofs.PartFileLaws.{part_again}

pub next_key_cut : (format : Format) (last : List ℕ) (count : ℕ) (bytes more : List ℕ) → IsCut (ReadsAlike more) (next_key_at format last count (bytes ++ more)) (next_key_at format last count bytes)
next_key_cut format last count bytes more = local_cut (next_key_at format last count) (local_next_key format last count) bytes more

entries_behind_cut : (format : Format) (turns fewer : ℕ) (ranges : List Range) (more : List ℕ) → ((last bytes : List ℕ) → IsCut (ReadsAlike more) (part_entries_at format turns ranges last (bytes ++ more)) (part_entries_at format fewer ranges last bytes))
    → (next : Option Triple) (rest : List ℕ) → IsCut (ReadsAlike more) (entries_from (part_entries_at format turns ranges) next (rest ++ more)) (entries_from (part_entries_at format fewer ranges) next rest)
entries_behind_cut format turns fewer ranges more again None rest = (refl, refl)
entries_behind_cut format turns fewer ranges more again (Some entry) rest = cut_then _ _ _ _ _ _ (again entry.key rest) (λ others end. (refl, refl))

-- a prefix is read in fewer turns
entries_cut : (format : Format) (turns fewer : ℕ) (ranges : List Range) (last bytes more : List ℕ) → fewer ≤ turns → IsCut (ReadsAlike more) (part_entries_at format turns ranges last (bytes ++ more)) (part_entries_at format fewer ranges last bytes)
unfolding part_entries_at
entries_cut format turns zero ranges last bytes more le = short_is_cut (ReadsAlike more) (part_entries_at format turns ranges last (bytes ++ more))
entries_cut format zero (suc fewer) ranges last bytes more le = absurd (omega arith)
entries_cut format (suc turns) (suc fewer) ranges last bytes more le =
    cut_then _ _ _ _ _ _ (local_cut (next_entry_at format ranges last) (next_entry_local format ranges last) bytes more) (entries_behind_cut format turns fewer ranges more (λ key left. entries_cut format turns fewer ranges key left more (omega arith)))

fields_cut : (bytes : List ℕ) (byte : ℕ) (rest : List ℕ) → IsCut (Never {X = PartFields}) (part_fields_at (bytes ++ byte ∷ rest)) (part_fields_at bytes)
unfolding part_fields_at
fields_cut bytes byte rest =
    let more = byte ∷ rest in
    cut_then _ _ _ _ _ _ (local_cut part_header_at header_local bytes more) (λ header r3.
    cut_then _ _ _ _ _ _ (entries_cut header.0 (length (r3 ++ more)) (length r3) header.1.1 [] r3 more (omega (arith, length-append r3 more))) (λ entries r4.
    cut_then _ _ _ _ _ _ (number_cut w32 r4 more) (λ total r5.
    cut_where _ (total == length entries) BadLength (r5 ++ more) r5 _ _ (
    cut_end r5 byte rest _ _))))

pub part_cut : (format : Format) (file : File) (n : ℕ) → IsPartFile file → HasPart format file → n < length (part_text_in format file) → part_at (take n (part_text_in format file)) ≡ Err Short
part_cut format file n lawful has lt =
    let text = part_text_in format file in
    let x = bind_ok (part_fields_at text) (λ part. Ok (part_of_fields part)) file (part_again format file lawful has) in
    rw (cut_is_short part_fields_at fields_cut text x.0 n x.1 lt) refl
