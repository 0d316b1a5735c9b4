use Rattle.pc_recover.proofs.ApartFiles.{of_points}
use Rattle.pc_recover.proofs.joining.tell.Goals as goal

pub returns-clause-points : goal.returns-clause-points
returns-clause-points c = of_points c.args.part.now c.entries.result c.entries.ensures.triples c.entries.ensures.covered
