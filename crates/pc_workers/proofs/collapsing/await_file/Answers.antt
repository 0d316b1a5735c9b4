use Rattle.std.proofs.Common.{[], ◌∙◌, arith}
use Rattle.pc_workers.proofs.BoardCalls.{looked, claimed_on, look_is_greatest}
use Rattle.pc_workers.proofs.collapsing.await_file.Goals as goal

pub horizon-requires : goal.horizon-requires
horizon-requires g c = c.loop.invariant.made.same.0 ∙ c.requires

pub returns-then-number-from-clause-calls : goal.returns-then-number-from-clause-calls
returns-then-number-from-clause-calls g c = claimed_on c.args.pass.now c.loop.pass c.horizon.new.pass [] [] c.loop.invariant (looked c.loop.pass c.horizon.new.pass c.horizon.result c.horizon.ensures.call)

pub returns-then-number-from-clause-some : goal.returns-then-number-from-clause-some
returns-then-number-from-clause-some g c =
    (omega arith, omega (arith, c.if-number-from.true, c.from.ensures, c.horizon-in-loop.view_is, look_is_greatest c.loop.pass c.horizon.new.pass c.horizon.result c.horizon.ensures.call))

pub returns-then-has_ended-clause-calls : goal.returns-then-has_ended-clause-calls
returns-then-has_ended-clause-calls g c = claimed_on c.args.pass.now c.loop.pass c.horizon.new.pass [] [] c.loop.invariant (looked c.loop.pass c.horizon.new.pass c.horizon.result c.horizon.ensures.call)

pub returns-then-has_ended-clause-none : goal.returns-then-has_ended-clause-none
returns-then-has_ended-clause-none g c =
    omega (arith, c.if-number-from.false, c.from.ensures, c.horizon-in-loop.view_is, look_is_greatest c.loop.pass c.horizon.new.pass c.horizon.result c.horizon.ensures.call)

pub loop-preserved : goal.loop-preserved
loop-preserved g c = claimed_on c.args.pass.now c.loop.pass c.horizon.new.pass [] [] c.loop.invariant (looked c.loop.pass c.horizon.new.pass c.horizon.result c.horizon.ensures.call)
