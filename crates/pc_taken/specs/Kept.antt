-- Entries, however they are kept.
use Rattle.std.specs.Prelude.{List, map}
use Rattle.pc_model.specs.TripleLists.{triple_at}
use Rattle.pc_types.specs.declared.Triple.{Triple}
use Rattle.pc_taken.specs.declared.entries.Form.{Form}
use Rattle.pc_taken.specs.declared.entries.Form.TheVariants.{Listed, Taken}

-- the triples that are kept
abbrev pub triples_in : Form → List Triple
triples_in (Listed triples) = triples.items
triples_in (Taken point taken) = map (triple_at point) taken
