use Rattle.std.proofs.Common.{◌∙◌}
use Rattle.pc_engine.proofs.Runs.{goes_on, ended}
use Rattle.pc_engine.proofs.world.run.Goals as goal

pub loop-event-preserved : goal.loop-event-preserved
loop-event-preserved c =
    let next = goes_on c.loop-event.world c.step-reply.new.self c.args.events.now c.loop-event.event-index c.loop-event.replies.items c.push.new.self.items c.event-item.result c.step-reply.result c.loop-event-test.true c.event-item.is c.in_ok-push.ensures.items c.loop-event.invariant.answered c.loop-event.invariant.stands c.step-reply.ensures.follows in
    record { answered = next.0; setting = c.step-reply.ensures.setting ∙ c.loop-event.invariant.setting; stands = next.1 }

pub returns-clause-run : goal.returns-clause-run
returns-clause-run c = ended _ c.loop-event.world c.args.events.now c.loop-event.event-index c.loop-event.replies.items c.loop-event-test.false c.loop-event.invariant.setting c.loop-event.invariant.answered c.loop-event.invariant.stands
