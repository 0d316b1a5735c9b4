-- The text of a base file that is truncated.
use Rattle.std.proofs.Common.{◌≡◌, ℕ, ◌<◌, List, [], ◌∷◌, ◌++◌, length, take, Ok, Err, refl}
use Rattle.std.specs.Prelude.{nat_le}
use Rattle.std.specs.Int.{w16, w32, w64}
use Rattle.pc_types.specs.declared.Refusal.TheVariants.{Short, BadRanges}
use Rattle.pc_io.proofs.CutFieldLaws.{IsCut, ReadsAlike, Never, cut_then, cut_where, cut_end, cut_is_short, number_cut, magic_cut, value_cut}
use Rattle.pc_io.proofs.FieldLaws.{bind_ok}
use Rattle.pc_io.specs.declared.formats.Format.{Format}
use Rattle.pc_io.specs.declared.formats.Format.TheVariants.{First, Second}
use Rattle.pc_model.specs.Files.{BaseFile}
use Rattle.pc_bases.specs.Lawful.{IsBaseFile, HasBaseText}
use Rattle.pc_bases.specs.Reading.{pair_at, BaseFields, base_fields_at, base_of_fields, base_at}
use Rattle.pc_bases.specs.Texts.{base_magic, base_text_in}
use Rattle.pc_bases.proofs.BaseFileLaws.{base_again}
use Rattle.pc_part.proofs.CutPartLaws.{next_key_cut}
use Rattle.pc_part.proofs.ItemLaws.{items_cut}

pair_cut : (format : Format) (last bytes more : List ℕ) → IsCut (ReadsAlike more) (pair_at format last (bytes ++ more)) (pair_at format last bytes)
unfolding pair_at
pair_cut format last bytes more =
    cut_then _ _ _ _ _ _ (number_cut w16 bytes more) (λ count rest.
    cut_then _ _ _ _ _ _ (next_key_cut format last count rest more) (λ key after.
    cut_then _ _ _ _ _ _ (value_cut after more) (λ value left.
    (refl, refl))))

fields_cut : (bytes : List ℕ) (byte : ℕ) (rest : List ℕ) → IsCut (Never {X = BaseFields}) (base_fields_at (bytes ++ byte ∷ rest)) (base_fields_at bytes)
unfolding base_fields_at
fields_cut bytes byte rest =
    let more = byte ∷ rest in
    cut_then _ _ _ _ _ _ (magic_cut (base_magic First) (base_magic Second) bytes more) (λ format start.
    cut_then _ _ _ _ _ _ (number_cut w64 start more) (λ run r1.
    cut_then _ _ _ _ _ _ (number_cut w32 r1 more) (λ point r2.
    cut_where _ (nat_le point 65535) BadRanges point point _ _ (
    cut_then _ _ _ _ _ _ (number_cut w32 r2 more) (λ count r3.
    cut_then _ _ _ _ _ _ (items_cut _ _ more (λ last left. pair_cut format last left more) count [] r3) (λ pairs r4.
    cut_end r4 byte rest _ _))))))

pub base_cut : (format : Format) (base : BaseFile) (n : ℕ) → IsBaseFile base → HasBaseText format base → n < length (base_text_in format base) → base_at (take n (base_text_in format base)) ≡ Err Short
base_cut format base n lawful has lt =
    let text = base_text_in format base in
    let x = bind_ok (base_fields_at text) (λ fields. Ok (base_of_fields fields)) base (base_again format base lawful has) in
    rw (cut_is_short base_fields_at fields_cut text x.0 n x.1 lt) refl
