-- A pass over entries, however they are kept.
use Rattle.std.specs.Prelude.{List}
use Rattle.std.specs.Slice.Iter.{iter_rest}
use Rattle.pc_types.specs.declared.Triple.{Triple}
use Rattle.pc_taken.specs.declared.pass.PassForm.{PassForm}
use Rattle.pc_taken.specs.declared.pass.PassForm.TheVariants.{Listed, Taken}

-- the triples to come
abbrev pub triples_to_come : PassForm → List Triple
triples_to_come (Listed triples) = iter_rest triples
triples_to_come (Taken pass) = pass
