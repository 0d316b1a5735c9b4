use Rattle.pc_engine.proofs.Causes.{get_refused}
use Rattle.pc_engine.proofs.world.World.read_key.Goals as goal

pub returns-in-Some : goal.returns-in-Some
returns-in-Some c = get_refused c.args.self.now c.args.session c.args.key.now c.in-Some.why c.in-Some.ensures
