use Rattle.std.proofs.Common.{◌≡◌, ℕ, Option, subst}
use Rattle.std.specs.Prelude.{IfSome}
use Rattle.pc_model.specs.History.{point_of}
use Rattle.pc_workers.specs.Checkpointing.{HasTurned}
use Rattle.pc_workers.proofs.Cycling.{stood_still, stood_on, stood_turned, held_on}
use Rattle.pc_workers.proofs.checkpointing.change_phase.Goals as goal

pub loop-init : goal.loop-init
loop-init g c = stood_still g.N.StoreName.name.setting c.args.seat.now

pub loop-preserved : goal.loop-preserved
loop-preserved g c = stood_on g.N.StoreName.name.setting c.args.seat.now c.loop.seat c.ask_phase.new.seat c.loop.invariant (c.in-Ok.ensures.waited c.in_default.is)

pub returns-in-Some-named-clause-turned : goal.returns-in-Some-named-clause-turned
returns-in-Some-named-clause-turned g c =
    let st = g.N.StoreName.name.setting in
    let after = c.ask_phase.new.seat in
    let turned = subst (λ (named : Option ℕ). IfSome named (λ point. HasTurned st c.loop.seat after × (point ≡ point_of after))) c.in-Some-named.is c.in-Ok.ensures.turned in
    stood_turned st c.args.seat.now c.loop.seat after c.loop.invariant turned.0

pub returns-in-Err-clause-held_up : goal.returns-in-Err-clause-held_up
returns-in-Err-clause-held_up g c = held_on g.N.StoreName.name.setting c.args.seat.now c.loop.seat c.ask_phase.new.seat c.in-Err.stop.why c.loop.invariant c.in-Err.ensures.held_up
