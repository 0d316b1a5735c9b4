use Rattle.pc_restarts.proofs.Rules.{reach_furthest}
use Rattle.pc_restarts.proofs.laws.recoveries_reach_furthest.Goals as goal

pub returns : goal.returns
returns c = reach_furthest
