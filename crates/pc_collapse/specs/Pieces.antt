-- The piece to be joined, as a file.
use Rattle.std.specs.Prelude.{ℕ, ◌<◌, List, length, slice_index_or, ⊤}
use Rattle.pc_model.specs.Maps as map_of
use Rattle.pc_model.specs.Sets as set
use Rattle.pc_model.specs.Files.{File}
use Rattle.pc_collapse.specs.declared.piece.Source.{Source}
use Rattle.pc_collapse.specs.declared.piece.Source.TheVariants.{Lent, Own}

-- the file of a number among the borrowed parts, from 0; the empty one if there is none
abbrev pub borrowed_file_at : List File → ℕ → File
borrowed_file_at parts number = slice_index_or parts number (record { run = 0; points = set.empty; triples = map_of.empty })

-- the file of a part that is borrowed, by its number, or owned
abbrev pub source_file : List File → Source → File
source_file parts (Lent number) = borrowed_file_at parts number
source_file parts (Own part) = part

-- a borrowed part is one of these
abbrev pub IsLentOf : List File → Source → Type 0
IsLentOf parts (Lent number) = number < length parts
IsLentOf parts (Own part) = ⊤
