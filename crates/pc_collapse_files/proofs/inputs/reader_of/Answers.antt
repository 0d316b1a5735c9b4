use Rattle.std.proofs.Common.{ap, subst, ◌∙◌}
use Rattle.std.specs.Prelude.{option_map}
use Rattle.pc_streams.specs.Coming.{part_coming, part_header}
use Rattle.pc_streams.specs.Readers.{coming_of, counted_by, header_of, refused_of}
use Rattle.pc_texts.specs.Files.{HoldsBytes}
use Rattle.pc_io.specs.Tallies.{failures_of}
use Rattle.pc_collapse_files.proofs.ReadFiles.{reader_is}
use Rattle.pc_collapse_files.proofs.ReadLaws.{standing_is}
use Rattle.pc_collapse_files.proofs.inputs.reader_of.Goals as goal

pub returns-in-Ok-clause-reader : goal.returns-in-Ok-clause-reader
returns-in-Ok-clause-reader g c = λ text holds.
    reader_is g.R.Read.remaining c.in-Ok.reader (header_of g.R.Read.remaining c.new-in-Ok.result) (coming_of g.R.Read.remaining c.new-in-Ok.result)
    (c.new-in-Ok.ensures.header ∙ ap (λ reader. option_map part_header (g.R.Read.remaining reader)) c.new.ensures.inner)
    (c.new-in-Ok.ensures.coming ∙ ap (λ reader. option_map part_coming (g.R.Read.remaining reader)) c.new.ensures.inner)
    text (subst (λ opened. HoldsBytes g.R.Read.remaining opened text) c.in-Ok.is holds)

pub returns-in-Ok-clause-sound : goal.returns-in-Ok-clause-sound
returns-in-Ok-clause-sound g c = standing_is (refused_of c.new-in-Ok.result) (failures_of (counted_by c.new-in-Ok.result)) c.new-in-Ok.ensures.sound (ap failures_of c.new-in-Ok.ensures.tally ∙ c.new.ensures.none)
