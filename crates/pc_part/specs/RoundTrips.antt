-- The laws of reading parts: each file has one text in each format that has its keys, which is read as it, and nothing else is read.
use Rattle.std.specs.Prelude.{◌≡◌, ◌⊎◌, ℕ, ◌<◌, List, ◌++◌, length, take, Result, Ok, Err}
use Rattle.std.specs.List.{All}
use Rattle.pc_types.specs.declared.Refusal.{Refusal}
use Rattle.pc_types.specs.declared.Refusal.TheVariants.{Short}
use Rattle.pc_io.specs.declared.formats.Format.{Format}
use Rattle.pc_model.specs.Files.{File}
use Rattle.pc_part.specs.declared.ranges.Range.{Range}
use Rattle.pc_part.specs.Lawful.{IsPartFile, HasPart, IsPartText}
use Rattle.pc_part.specs.Reading.{next_entry_at, part_header_at, part_at}
use Rattle.pc_part.specs.Texts.{part_text_in}

-- The text of a part file in either format is read as the file.
abbrev pub PartTextsAreRead : Type 0
PartTextsAreRead = (format : Format) (file : File) → IsPartFile file → HasPart format file → part_at (part_text_in format file) ≡ Ok file

-- Bytes that are read as a part file are a text of that file.
abbrev pub ReadPartsAreTexts : Type 0
ReadPartsAreTexts = (bytes : List ℕ) (file : File) → All (λ byte. byte < 256) bytes → part_at bytes ≡ Ok file → IsPartFile file × IsPartText bytes file

-- The text of a part file that is truncated anywhere is short.
abbrev pub CutPartTextsAreShort : Type 0
CutPartTextsAreShort = (format : Format) (file : File) (n : ℕ) → IsPartFile file → HasPart format file → n < length (part_text_in format file) → part_at (take n (part_text_in format file)) ≡ Err Short

-- What is read from the front of bytes, with what is left of them: it is read of longer bytes too, and so is each fault but that of
-- bytes that end too soon. The rest is at the end of the bytes.
pub record IsLocal {X : Type 0} (read : List ℕ → Result (X × List ℕ) Refusal) : Type 0 where
  pub ok : (bytes more : List ℕ) (x : X) (rest : List ℕ) → read bytes ≡ Ok (x, rest) → read (bytes ++ more) ≡ Ok (x, rest ++ more)
  pub err : (bytes more : List ℕ) (fault : Refusal) → read bytes ≡ Err fault → (fault ≡ Short) ⊎ (read (bytes ++ more) ≡ Err fault)
  pub back : (bytes : List ℕ) (x : X) (rest : List ℕ) → read bytes ≡ Ok (x, rest) → (text : List ℕ) × (bytes ≡ text ++ rest)

-- A part's header and its next entry are read so.
abbrev pub StepsAreLocal : Type 0
StepsAreLocal = IsLocal part_header_at × ((format : Format) (ranges : List Range) (last : List ℕ) → IsLocal (next_entry_at format ranges last))
