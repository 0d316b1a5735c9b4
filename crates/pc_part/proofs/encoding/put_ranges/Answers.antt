use Rattle.std.proofs.Common.{Err, subst, arith}
use Rattle.std.proofs.lemmas.Result.{err_from_is_err_and}
use Rattle.pc_io.proofs.PutsLaws.{puts_stop_at}
use Rattle.pc_io.specs.Tallies.{Puts}
use Rattle.pc_part.specs.Texts.{bounds_text}
use Rattle.pc_part.specs.declared.ranges.Range.{Range}
use Rattle.pc_part.proofs.encoding.put_ranges.Goals as goal

pub returns-in_err-put_range : goal.returns-in_err-put_range
returns-in_err-put_range g c =
    let p = err_from_is_err_and c.from_residual.result c.from_residual.ensures.1 in
    rw (p.1, p.2) (puts_stop_at g.W.Write.contents bounds_text c.args.ranges.now c.loop-range.range-index c.range-item.result c.args.out.now c.loop-range.out c.put_range.new.out _ c.loop-range-test.true c.loop-range.invariant.sent (omega (arith, c.loop-range.invariant.counted)) (subst (λ (r : Range). Puts g.W.Write.contents c.loop-range.out c.put_range.new.out (Err c.in_err-put_range.field-0.0) (bounds_text r)) c.range-item.is c.in_err-put_range.ensures))
