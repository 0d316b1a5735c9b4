use Rattle.pc_engine.proofs.Causes.{add_stopped}
use Rattle.pc_engine.proofs.world.World.add_refusal.Goals as goal

pub returns-in-Some : goal.returns-in-Some
returns-in-Some c = add_stopped c.args.self.now c.args.session c.args.key.now c.args.delta c.in-Some.why c.in-Some.ensures
