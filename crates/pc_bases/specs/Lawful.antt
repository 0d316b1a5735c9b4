-- The base files that have a text: numbers, keys and values are within their limits. In format 01 their keys are all of space 0.
use Rattle.std.specs.Prelude.{◌≡◌, ℕ, ◌≤◌, ◌<◌, ◌^◌, List}
use Rattle.std.specs.List.{All}
use Rattle.pc_types.specs.Limits.{IsKey, IsValue}
use Rattle.pc_io.specs.Fields.{HasKey}
use Rattle.pc_io.specs.declared.formats.Format.{Format}
use Rattle.pc_types.specs.declared.limits.TheConstants.{MOST_POINTS}
use Rattle.pc_model.specs.Files.{BaseFile}
use Rattle.pc_part.specs.Parts.{IsWithinLimit}
use Rattle.pc_bases.specs.Texts.{base_text_in}

-- a key and its value
abbrev pub IsPair : List ℕ × List ℕ → Type 0
IsPair pair = IsKey pair.0 × IsValue pair.1

-- a base file: its run and its point fit, and it has at most 4,294,967,295 pairs
pub record IsBaseFile (base : BaseFile) : Type 0 where
  pub run : base.run < 2 ^ 64
  pub point : base.point ≤ MOST_POINTS
  pub pairs : All IsPair base.pairs.entries
  pub limit : IsWithinLimit base.pairs.entries

-- the format has a text of the base: it has one of each key
abbrev pub HasBaseText : Format → BaseFile → Type 0
HasBaseText format base = All (λ pair. HasKey format pair.0) base.pairs.entries

-- the bytes are the base's text in one of the formats
abbrev pub IsBaseText : List ℕ → BaseFile → Type 0
IsBaseText bytes base = (format : Format) × HasBaseText format base × (bytes ≡ base_text_in format base)
