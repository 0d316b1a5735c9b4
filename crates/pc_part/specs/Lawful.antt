-- The part files that have a text: numbers, keys and values are within their limits, and entries are of the file's points. In
-- format 01 their keys are all of space 0.
use Rattle.std.specs.Prelude.{◌≡◌, ℕ, ◌≤◌, ◌<◌, ◌^◌, List, IfSome, IsTrue}
use Rattle.std.specs.List.{All}
use Rattle.pc_types.specs.Limits.{IsKey, IsValue}
use Rattle.pc_io.specs.Fields.{HasKey}
use Rattle.pc_io.specs.declared.formats.Format.{Format}
use Rattle.pc_model.specs.Sets as set
use Rattle.pc_model.specs.Sets.{Set, number_order}
use Rattle.pc_model.specs.Points.{AtPoint}
use Rattle.pc_model.specs.Files.{File}
use Rattle.pc_types.specs.declared.Triple.{Triple}
use Rattle.pc_types.specs.declared.limits.TheConstants.{MOST_POINTS}
use Rattle.pc_part.specs.Parts.{IsWithinLimit}
use Rattle.pc_part.specs.Texts.{part_text_in}

-- a point of a part is 1 to 65,535
abbrev pub IsPoint : ℕ → Type 0
IsPoint point = (1 ≤ point) × (point ≤ MOST_POINTS)

-- an entry of one of these points
pub record IsPartEntry (points : Set number_order) (entry : List ℕ × AtPoint) : Type 0 where
  pub key : IsKey entry.0
  pub covered : IsTrue (set.contains points entry.1.point)
  pub content : IfSome entry.1.content IsValue

-- the key and the value of a triple are within their limits
abbrev pub HasLimits : Triple → Type 0
HasLimits triple = IsKey triple.key × IfSome triple.content IsValue

-- a part file: its run is within the limits, it covers at least one point, and it has at most 4,294,967,295 entries
pub record IsPartFile (file : File) : Type 0 where
  pub run : file.run < 2 ^ 64
  pub some : 1 ≤ set.len file.points
  pub points : All IsPoint (set.items file.points)
  pub entries : All (IsPartEntry file.points) file.triples.entries
  pub limit : IsWithinLimit file.triples.entries

-- the format has a text of the part: it has one of each key
abbrev pub HasPart : Format → File → Type 0
HasPart format file = All (λ entry. HasKey format entry.0) file.triples.entries

-- the bytes are the part's text in one of the formats
abbrev pub IsPartText : List ℕ → File → Type 0
IsPartText bytes file = (format : Format) × HasPart format file × (bytes ≡ part_text_in format file)
