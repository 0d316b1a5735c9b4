-- The magics of bases tell the format.
use Rattle.std.proofs.Common.{◌≡◌, ℕ, List, ◌++◌, Ok, refl, subst}
use Rattle.pc_io.specs.declared.formats.Format.{Format}
use Rattle.pc_io.specs.declared.formats.Format.TheVariants.{First, Second}
use Rattle.pc_io.specs.Fields.{magic_at}
use Rattle.pc_types.specs.Bytes.{IsBytes}
use Rattle.pc_io.specs.FieldForms.{TakesText}
use Rattle.pc_io.proofs.FieldLaws.{told, magic_takes, magic_again}
use Rattle.pc_bases.specs.Texts.{base_magic}

told_of_bases : (format : Format) → told format (base_magic First) (base_magic Second) ≡ base_magic format
told_of_bases First = refl
told_of_bases Second = refl

pub base_magic_takes : (bytes : List ℕ) (format : Format) (rest : List ℕ) → IsBytes bytes → magic_at (base_magic First) (base_magic Second) bytes ≡ Ok (format, rest) → TakesText bytes (base_magic format) rest
base_magic_takes bytes format rest fits is = subst (λ (m : List ℕ). TakesText bytes m rest) (told_of_bases format) (magic_takes (base_magic First) (base_magic Second) bytes format rest fits is)

pub base_magic_again : (format : Format) (rest : List ℕ) → magic_at (base_magic First) (base_magic Second) (base_magic format ++ rest) ≡ Ok (format, rest)
base_magic_again First rest = magic_again (base_magic First) (base_magic Second) First rest refl refl
base_magic_again Second rest = magic_again (base_magic First) (base_magic Second) Second rest refl refl
