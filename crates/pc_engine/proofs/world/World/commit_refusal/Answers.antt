use Rattle.pc_engine.proofs.Causes.{commit_refused}
use Rattle.pc_engine.proofs.world.World.commit_refusal.Goals as goal

pub returns-in-Some : goal.returns-in-Some
returns-in-Some c = commit_refused c.args.self.now c.args.session c.in-Some.why c.in-Some.ensures
