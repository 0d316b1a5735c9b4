use Rattle.std.proofs.Common.{◌∙◌}
use Rattle.pc_workers.proofs.Cycling.{stood_still, stood_on, held_on}
use Rattle.pc_workers.proofs.checkpointing.take_keys.Goals as goal

pub loop-init : goal.loop-init
loop-init g c = stood_still g.N.StoreName.name.setting c.args.seat.now

pub take_batch-requires : goal.take_batch-requires
take_batch-requires g c = c.loop.invariant.in_phase ∙ c.requires

pub loop-preserved : goal.loop-preserved
loop-preserved g c = stood_on g.N.StoreName.name.setting c.args.seat.now c.loop.seat c.take_batch.new.seat c.loop.invariant c.in-Ok-true.ensures.stood

pub loop-preserved-then-take : goal.loop-preserved-then-take
loop-preserved-then-take g c = stood_on g.N.StoreName.name.setting c.args.seat.now c.loop.seat c.take_batch.new.seat c.loop.invariant c.in-Ok-true.ensures.stood

pub returns-in-Ok-false-clause-stood : goal.returns-in-Ok-false-clause-stood
returns-in-Ok-false-clause-stood g c = stood_on g.N.StoreName.name.setting c.args.seat.now c.loop.seat c.take_batch.new.seat c.loop.invariant c.in-Ok-false.ensures.stood

pub returns-in-Err-clause-held_up : goal.returns-in-Err-clause-held_up
returns-in-Err-clause-held_up g c = held_on g.N.StoreName.name.setting c.args.seat.now c.loop.seat c.take_batch.new.seat c.in-Err.stop.why c.loop.invariant c.in-Err.ensures.held_up
