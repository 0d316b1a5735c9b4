use Rattle.std.proofs.Common.{refl, sym, ◌∙◌, arith}
use Rattle.pc_types.proofs.WordOrder.{past_byte, by_byte, by_lengths}
use Rattle.pc_types.proofs.ordering.order_behind.Goals as goal

pub loop-place-init : goal.loop-place-init
loop-place-init c = refl

pub returns-then-x-y : goal.returns-then-x-y
returns-then-x-y c = c.cmp.ensures ∙ by_byte c.args.a.now c.args.b.now c.loop-place.place (omega (arith, c.min-end.ensures)) (omega (arith, c.min-end.ensures)) c.if-x-y.true ∙ sym c.loop-place.invariant

pub loop-place-preserved : goal.loop-place-preserved
loop-place-preserved c = c.loop-place.invariant ∙ past_byte c.args.a.now c.args.b.now c.loop-place.place (omega (arith, c.min-end.ensures)) (omega (arith, c.min-end.ensures)) c.if-x-y.false

pub returns : goal.returns
returns c = c.cmp-2.ensures ∙ by_lengths c.args.a.now c.args.b.now c.loop-place.place (omega (arith, c.min-end.ensures, c.loop-place.auto.place-end)) ∙ sym c.loop-place.invariant
