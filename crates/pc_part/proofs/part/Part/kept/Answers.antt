use Rattle.std.proofs.Common.{ap, refl}
use Rattle.pc_part.proofs.TakenTriples.{entries_known}
use Rattle.pc_part.proofs.part.Part.kept.Goals as goal

pub returns-clause-entries : goal.returns-clause-entries
returns-clause-entries c = entries_known c.self.inside.entries _ _ c.self.invariant.1 (ap (λ f. f.triples) c.self.view_is) refl
