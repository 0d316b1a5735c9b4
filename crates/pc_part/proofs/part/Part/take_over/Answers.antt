use Rattle.std.proofs.Common.{sym, ap, subst, ◌∙◌}
use Rattle.std.specs.Prelude.{IsTrue}
use Rattle.pc_model.specs.Sets as set
use Rattle.pc_model.specs.Files.{File, triples_taken}
use Rattle.pc_model.specs.Points.{Triples}
use Rattle.pc_part.specs.Parts.{points_of}
use Rattle.pc_part.proofs.TakenTriples.{taken_rise, taken_among, taken_triples, taken_within}
use Rattle.pc_part.proofs.part.Part.take_over.Goals as goal

pub invariant_of-self : goal.invariant_of-self
invariant_of-self c = (
  c.self.invariant.0,
  taken_rise c.args.point c.args.taken c.taken.result c.taken.ensures c.requires.rise,
  taken_among c.args.point c.args.taken c.taken.result _ c.taken.ensures (subst (λ (file : File). IsTrue (set.contains file.points c.args.point)) (sym c.self.view_is) c.requires.covered),
  taken_within c.args.point c.args.taken c.taken.result c.taken.ensures c.requires.limit,
)

pub returns : goal.returns
returns c = ap (λ (triples : Triples). record { run = c.self.inside.run; points = points_of c.self.inside.ranges.items; triples = triples }) (taken_triples c.args.point c.args.taken c.taken.result c.taken.ensures)
    ∙ ap (λ (file : File). record { run = file.run; points = file.points; triples = triples_taken c.args.point c.args.taken }) c.self.view_is
