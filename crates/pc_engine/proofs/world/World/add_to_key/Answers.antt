use Rattle.std.proofs.Common.{◌∙◌}
use Rattle.pc_engine.proofs.Causes.{add_stopped}
use Rattle.pc_engine.proofs.SetKeys.{sum_left}
use Rattle.pc_engine.proofs.world.World.add_to_key.Goals as goal

pub returns-in-Some : goal.returns-in-Some
returns-in-Some c = add_stopped c.args.self.now c.args.session c.args.key.now c.args.delta c.in-Some.why c.in-Some.ensures

pub request-requires-clause-left : goal.request-requires-clause-left
request-requires-clause-left c =
    let may = rw (← c.self.view_is) at c.in_default.ensures in
    rw c.in-Ok-add_write.ensures.write (λ granted. c.in-Ok-add_write.ensures.left ∙ sum_left _ _ _ _ _ _ _ may.0.opened c.in-Ok.ensures.apply c.in-Ok.ensures.goes_on granted)
