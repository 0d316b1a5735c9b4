-- The laws of reading bases: each file has one text in each format that has its keys, which is read as it, and nothing else is read.
use Rattle.std.specs.Prelude.{◌≡◌, ℕ, ◌<◌, List, length, take, Ok, Err}
use Rattle.std.specs.List.{All}
use Rattle.pc_types.specs.declared.Refusal.TheVariants.{Short}
use Rattle.pc_io.specs.declared.formats.Format.{Format}
use Rattle.pc_model.specs.Files.{BaseFile}
use Rattle.pc_bases.specs.Lawful.{IsBaseFile, HasBaseText, IsBaseText}
use Rattle.pc_bases.specs.Reading.{base_at}
use Rattle.pc_bases.specs.Texts.{base_text_in}

-- The text of a base file in either format is read as the base.
abbrev pub BaseTextsAreRead : Type 0
BaseTextsAreRead = (format : Format) (base : BaseFile) → IsBaseFile base → HasBaseText format base → base_at (base_text_in format base) ≡ Ok base

-- Bytes that are read as a base file are a text of that base.
abbrev pub ReadBasesAreTexts : Type 0
ReadBasesAreTexts = (bytes : List ℕ) (base : BaseFile) → All (λ byte. byte < 256) bytes → base_at bytes ≡ Ok base → IsBaseFile base × IsBaseText bytes base

-- The text of a base file that is truncated anywhere is short.
abbrev pub CutBaseTextsAreShort : Type 0
CutBaseTextsAreShort = (format : Format) (base : BaseFile) (n : ℕ) → IsBaseFile base → HasBaseText format base → n < length (base_text_in format base) → base_at (take n (base_text_in format base)) ≡ Err Short
