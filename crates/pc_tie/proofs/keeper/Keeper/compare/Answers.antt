use Rattle.pc_tie.proofs.Visits.{fronts_told, none_alike_told}
use Rattle.pc_tie.proofs.keeper.Keeper.compare.Goals as goal

pub returns-clause-fronts : goal.returns-clause-fronts
returns-clause-fronts g c = fronts_told _ _ c.look.ensures.told

pub returns-clause-apart : goal.returns-clause-apart
returns-clause-apart g c = none_alike_told _ _ c.look.ensures.told
