use Rattle.pc_engine.proofs.LoggedTexts.{pairs_are_replayed}
use Rattle.pc_engine.proofs.world.World.committed.Goals as goal

pub returns-clause-replayed : goal.returns-clause-replayed
returns-clause-replayed c history stands = pairs_are_replayed c.args.self.now c.in_ok-pairs.pairs.items (rw (← c.self.view_is) c.in_ok-pairs.ensures.contents) history stands
