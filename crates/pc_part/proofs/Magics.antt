-- The magics of parts tell the format.
use Rattle.std.proofs.Common.{◌≡◌, ℕ, List, ◌++◌, Ok, refl, subst}
use Rattle.pc_io.specs.declared.formats.Format.{Format}
use Rattle.pc_io.specs.declared.formats.Format.TheVariants.{First, Second}
use Rattle.pc_io.specs.Fields.{magic_at}
use Rattle.pc_types.specs.Bytes.{IsBytes}
use Rattle.pc_io.specs.FieldForms.{TakesText}
use Rattle.pc_io.proofs.FieldLaws.{told, magic_takes, magic_again}
use Rattle.pc_part.specs.Texts.{part_magic}

told_of_parts : (format : Format) → told format (part_magic First) (part_magic Second) ≡ part_magic format
told_of_parts First = refl
told_of_parts Second = refl

pub part_magic_takes : (bytes : List ℕ) (format : Format) (rest : List ℕ) → IsBytes bytes → magic_at (part_magic First) (part_magic Second) bytes ≡ Ok (format, rest) → TakesText bytes (part_magic format) rest
part_magic_takes bytes format rest fits is = subst (λ (m : List ℕ). TakesText bytes m rest) (told_of_parts format) (magic_takes (part_magic First) (part_magic Second) bytes format rest fits is)

pub part_magic_again : (format : Format) (rest : List ℕ) → magic_at (part_magic First) (part_magic Second) (part_magic format ++ rest) ≡ Ok (format, rest)
part_magic_again First rest = magic_again (part_magic First) (part_magic Second) First rest refl refl
part_magic_again Second rest = magic_again (part_magic First) (part_magic Second) Second rest refl refl
