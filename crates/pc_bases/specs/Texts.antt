-- The texts of base files: the bytes that represent them, in each of the two formats. Numbers are big-endian.
-- Format 02 is written: a word without a format is that of it.
use Rattle.std.specs.Prelude.{ℕ, List, ◌++◌, codes}
use Rattle.std.specs.List.{flat_map}
use Rattle.std.specs.Int.{w32, w64, to_be_bytes}
use Rattle.pc_model.specs.Maps as map
use Rattle.pc_io.specs.declared.formats.Format.{Format}
use Rattle.pc_io.specs.declared.formats.Format.TheVariants.{First, Second}
use Rattle.pc_io.specs.Fields.{key_text_in, value_text}
use Rattle.pc_model.specs.Files.{BaseFile}

-- the magic of a base file
abbrev pub base_magic : Format → List ℕ
base_magic First = codes "PCALCB01"
base_magic Second = codes "PCALCB02"

-- the header of a base file: the magic, the run, the point, and how many pairs there are
abbrev pub base_head_text_in : Format → ℕ → ℕ → ℕ → List ℕ
base_head_text_in format run point count = base_magic format ++ (to_be_bytes w64 run ++ (to_be_bytes w32 point ++ to_be_bytes w32 count))

-- the same as it is written
abbrev pub base_head_text : ℕ → ℕ → ℕ → List ℕ
base_head_text run point count = base_head_text_in Second run point count

-- a pair: its key and its value, each with the length before it
abbrev pub pair_text_in : Format → List ℕ × List ℕ → List ℕ
pair_text_in format pair = key_text_in format pair.0 ++ value_text pair.1

-- the same as it is written
abbrev pub base_pair_text : List ℕ × List ℕ → List ℕ
base_pair_text pair = pair_text_in Second pair

-- the one text of a base in a format
unfoldable pub base_text_in : Format → BaseFile → List ℕ
base_text_in format base = base_head_text_in format base.run base.point (map.len base.pairs) ++ flat_map (pair_text_in format) base.pairs.entries

-- the same as it is written
abbrev pub base_text : BaseFile → List ℕ
base_text base = base_text_in Second base
