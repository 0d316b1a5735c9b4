use Rattle.std.proofs.Common.{◌≡◌, ℕ, ◌+◌, subst, ◌∙◌, arith}
use Rattle.pc_model.specs.History.{point_of}
use Rattle.pc_workers.specs.Checkpointing.{whole_cycles, HasCycled, HasPublished, HasBrokenOff, IsFull}
use Rattle.pc_workers.proofs.BoardCalls.{published_none}
use Rattle.pc_workers.proofs.Cycling.{of_stop}
use Rattle.pc_workers.proofs.FullLaws.{full_to}
use Rattle.pc_workers.proofs.WholeCycles.{cycled_none, cycled_on, cycle_published, breaks_off_in}
use Rattle.pc_workers.proofs.checkpointing.checkpoint_loop.Goals as goal

pub loop-init : goal.loop-init
loop-init g c = (cycled_none g.N.StoreName.name.setting c.args.seat.now c.requires.rest, published_none c.args.pass.now)

pub take_point-requires-clause-board : goal.take_point-requires-clause-board
take_point-requires-clause-board g c = c.loop.invariant.1.same.0 ∙ c.requires.board

pub take_point-requires-clause-rest : goal.take_point-requires-clause-rest
take_point-requires-clause-rest g c = c.loop.invariant.0.in_phase

pub loop-preserved : goal.loop-preserved
loop-preserved g c =
    let st = g.N.StoreName.name.setting in
    let i = c.loop.invariant in (
      cycled_on st c.loop.counter c.args.seat.now c.loop.seat c.take_point.new.seat i.0 c.in_ok-take_point.ensures.reached,
      cycle_published st c.loop.counter c.args.seat.now c.loop.seat c.args.pass.now c.loop.pass c.take_point.new.pass i.0 i.1 c.in_ok-take_point.ensures.published,
    )

pub returns-in_err-take_point-clause-broken_off : goal.returns-in_err-take_point-clause-broken_off
returns-in_err-take_point-clause-broken_off g c =
    let st = g.N.StoreName.name.setting in
    let i = c.loop.invariant in
    of_stop c.from_residual.result _ c.from_residual.ensures.1 (λ stop. HasBrokenOff st (whole_cycles (point_of c.args.seat.now) c.args.points) c.args.seat.now c.take_point.new.seat c.args.pass.now c.take_point.new.pass stop.why)
    (breaks_off_in st c.loop.counter c.args.points c.args.seat.now c.loop.seat c.take_point.new.seat c.args.pass.now c.loop.pass c.take_point.new.pass _ (omega (arith, c.loop-test.true)) i.0 i.1 c.in_err-take_point.ensures.broken_off)

pub returns-in_err-take_point-clause-full : goal.returns-in_err-take_point-clause-full
returns-in_err-take_point-clause-full g c =
    let m = point_of c.args.seat.now in
    let before : point_of c.loop.seat ≡ m + c.loop.counter = c.loop.invariant.0.at_point in
    of_stop c.from_residual.result _ c.from_residual.ensures.1 (λ stop. IsFull g.N.StoreName.name.setting c.take_point.new.seat stop.seen (m + c.args.points) stop.why)
    (full_to g.N.StoreName.name.setting c.take_point.new.seat c.in_err-take_point.field-0.0.seen (point_of c.loop.seat + 1) (m + c.args.points) _ (omega (arith, before, c.loop-test.true)) c.in_err-take_point.ensures.full)

pub returns-clause-cycled : goal.returns-clause-cycled
returns-clause-cycled g c =
    let all : c.loop.counter ≡ c.args.points = omega (arith, c.loop-test.false, c.loop.auto.counter-end) in
    subst (λ (k : ℕ). HasCycled g.N.StoreName.name.setting k c.args.seat.now c.loop.seat) all c.loop.invariant.0

pub returns-clause-published : goal.returns-clause-published
returns-clause-published g c =
    let all : c.loop.counter ≡ c.args.points = omega (arith, c.loop-test.false, c.loop.auto.counter-end) in
    subst (λ (k : ℕ). HasPublished (whole_cycles (point_of c.args.seat.now) k) c.args.pass.now c.loop.pass) all c.loop.invariant.1
