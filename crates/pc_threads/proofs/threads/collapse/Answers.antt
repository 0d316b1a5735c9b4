use Rattle.pc_workers.proofs.CoverLaws.{collapsed_to}
use Rattle.pc_threads.proofs.threads.collapse.Goals as goal

pub returns-in-Ok-clause-only : goal.returns-in-Ok-clause-only
returns-in-Ok-clause-only g c = collapsed_to c.args.share.points _ _ c.in-Ok.held.items c.in-Ok.ensures.held
