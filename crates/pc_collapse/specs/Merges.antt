-- Parts as inputs of a merge, and the points of all of them.
use Rattle.std.specs.Prelude.{ℕ, Bool, IsTrue, List, Option, Some, None, map}
use Rattle.std.specs.List.{All}
use Rattle.pc_types.specs.declared.Refusal.{Refusal}
use Rattle.pc_types.specs.declared.Triple.{Triple}
use Rattle.pc_model.specs.Sets as set
use Rattle.pc_model.specs.Sets.{Set, number_order}
use Rattle.pc_model.specs.Files.{File}
use Rattle.pc_part.specs.Parts.{AreCovered}
use Rattle.pc_merge.specs.Coming.{Coming, Standing, refused}
use Rattle.pc_collapse.specs.Worth.{Among}
use Rattle.pc_collapse.specs.Worth.Fact.{HasPoint}
use Rattle.pc_collapse.specs.declared.merging.PartEntries.{PartEntries}

-- the entries of a file, by key
abbrev pub file_entries : File → List Triple
file_entries file = map (λ e. record { key = e.0; point = e.1.point; content = e.1.content }) file.triples.entries

-- the entries of a file, and then the end
abbrev pub file_coming : File → Coming
file_coming file = record { entries = file_entries file; fault = None }

-- the entries that are left, and then the end; or the refusal that was answered
abbrev pub coming_unless : Option Refusal → List Triple → Coming
coming_unless None entries = record { entries = entries; fault = None }
coming_unless (Some why) entries = refused why

-- what is to come of a part's entries, which is always known
abbrev pub entries_coming : PartEntries → Option Coming
entries_coming entries = Some (coming_unless entries.refused entries.pass)

-- what was refused; there is no device
abbrev pub entries_standing : PartEntries → Standing
entries_standing entries = record { refused = entries.refused; failures = 0 }

-- the entries that are left are of these points
abbrev pub entries_within : PartEntries → (ℕ → Bool) → Type 0
entries_within entries points = All (λ entry. IsTrue (points entry.point)) entries.pass

-- the entries of a file, all of which are to come
abbrev pub entries_of_file : File → PartEntries
entries_of_file file = record { pass = file_entries file; refused = None }

-- each entry of the file is of one of its points
abbrev pub IsCovered : File → Type 0
IsCovered file = AreCovered file.points (file_entries file)

-- the points are those of the files: each is one of theirs, and theirs are all there
pub record AreAllPoints (files : List File) (points : Set number_order) : Type 0 where
  pub sound : (point : ℕ) → IsTrue (set.contains points point) → Among (HasPoint point) files
  pub whole : (point : ℕ) → Among (HasPoint point) files → IsTrue (set.contains points point)
