use Rattle.std.proofs.Common.{arith}
use Rattle.std.proofs.lemmas.Result.{err_from_is_err_and}
use Rattle.pc_part.proofs.ItemLaws.{items_go_on, items_stop, items_done}
use Rattle.pc_part.proofs.ReadFieldLaws.{ranges_take}
use Rattle.pc_part.proofs.decoding.read_ranges.Goals as goal

pub returns-in_err-low-clause-read : goal.returns-in_err-low-clause-read
returns-in_err-low-clause-read c =
    let p = err_from_is_err_and c.from_residual.result c.from_residual.ensures.1 in
    rw (p.1, p.2) (λ other. items_stop _ _ _ _ _ _ _ c.loop.invariant c.in_err-low.field-0.0 c.loop-test.true c.in_err-low.ensures)

pub loop-preserved : goal.loop-preserved
loop-preserved c =
    rw (c.in_ok-push.ensures.items, c.from-least.ensures) (items_go_on _ _ _ _ _ _ _ c.loop.invariant
    (record { low = c.in_ok-low.low; high = c.in_ok-low.high }) c.in_ok-low.after.now c.loop-test.true c.in_ok-low.ensures)

pub returns-clause-read : goal.returns-clause-read
returns-clause-read c = items_done _ _ _ _ _ _ _ c.loop.invariant c.loop-test.false

pub returns-clause-apart : goal.returns-clause-apart
returns-clause-apart c = (ranges_take c.args.count 1 c.args.bytes.now (c.loop.ranges.items, c.loop.rest.now) (λ i. omega (arith, c.type_inv.bytes i)) (returns-clause-read c)).2
