-- The texts of part files: the bytes that represent them, in each of the two formats. Numbers are big-endian.
-- Format 02 is written: a word without a format is that of it.
use Rattle.std.specs.Prelude.{ℕ, List, ◌++◌, length, codes}
use Rattle.std.specs.List.{flat_map}
use Rattle.std.specs.Int.{w16, w32, w64, to_be_bytes}
use Rattle.pc_model.specs.Maps as map
use Rattle.pc_model.specs.Sets as set
use Rattle.pc_io.specs.declared.formats.Format.{Format}
use Rattle.pc_io.specs.declared.formats.Format.TheVariants.{First, Second}
use Rattle.pc_io.specs.Fields.{key_text_in, content_text}
use Rattle.pc_model.specs.Files.{File}
use Rattle.pc_model.specs.Points.{AtPoint, Triples}
use Rattle.pc_model.specs.Ranges.{ranges_of}
use Rattle.pc_model.specs.TripleLists.{entry_of}
use Rattle.pc_types.specs.declared.Triple.{Triple}
use Rattle.pc_part.specs.declared.ranges.Range.{Range}
use Rattle.pc_part.specs.Parts.{bounds}

-- the magic of a part file
abbrev pub part_magic : Format → List ℕ
part_magic First = codes "PCALCP01"
part_magic Second = codes "PCALCP02"

-- the start: the magic, the run, and how many ranges there are
abbrev pub head_text_in : Format → ℕ → ℕ → List ℕ
head_text_in format run count = part_magic format ++ (to_be_bytes w64 run ++ to_be_bytes w32 count)

-- the same as it is written
abbrev pub head_text : ℕ → ℕ → List ℕ
head_text run count = head_text_in Second run count

-- a range: its first and its last point
abbrev pub part_range_text : ℕ × ℕ → List ℕ
part_range_text bounds = to_be_bytes w32 bounds.0 ++ to_be_bytes w32 bounds.1

-- the same of a range of a part
abbrev pub bounds_text : Range → List ℕ
bounds_text range = part_range_text (bounds range)

-- an entry: its key with the length before it, its point, and what the key had there
abbrev pub part_entry_text_in : Format → List ℕ × AtPoint → List ℕ
part_entry_text_in format entry = key_text_in format entry.0 ++ (to_be_bytes w32 entry.1.point ++ content_text entry.1.content)

-- the same as it is written
abbrev pub part_entry_text : List ℕ × AtPoint → List ℕ
part_entry_text entry = part_entry_text_in Second entry

-- the same of a triple of a part
abbrev pub triple_text_in : Format → Triple → List ℕ
triple_text_in format triple = part_entry_text_in format (entry_of triple)

-- the same as it is written
abbrev pub triple_text : Triple → List ℕ
triple_text triple = triple_text_in Second triple

-- the end: an end mark, which is the length of no key, and how many entries there are
abbrev pub end_text : ℕ → List ℕ
end_text count = to_be_bytes w16 0 ++ to_be_bytes w32 count

-- the text of some ranges and some triples
abbrev pub text_of_in : Format → ℕ → List (ℕ × ℕ) → Triples → List ℕ
text_of_in format run ranges triples = head_text_in format run (length ranges) ++ (flat_map part_range_text ranges ++ (flat_map (part_entry_text_in format) triples.entries ++ end_text (map.len triples)))

-- the same as it is written
abbrev pub part_file_text : ℕ → List (ℕ × ℕ) → Triples → List ℕ
part_file_text run ranges triples = text_of_in Second run ranges triples

-- the one text of a file in a format
unfoldable pub part_text_in : Format → File → List ℕ
part_text_in format file = text_of_in format file.run (ranges_of (set.items file.points)) file.triples

-- the same as it is written
abbrev pub part_text : File → List ℕ
part_text file = part_text_in Second file
