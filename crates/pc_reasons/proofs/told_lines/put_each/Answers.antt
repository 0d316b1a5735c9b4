use Rattle.std.proofs.Common.{arith}
use Rattle.std.proofs.lemmas.Result.{err_from_is_err_and}
use Rattle.pc_io.proofs.PutsLaws.{puts_stop_at}
use Rattle.pc_reasons.specs.declared.faults.LineFault.TheVariants.{NoCommand}
use Rattle.pc_reasons.specs.declared.told_lines.BadLine.{BadLine}
use Rattle.pc_reasons.specs.Told.{bad_line_text}
use Rattle.pc_reasons.proofs.TextLemmas.{sent_more}
use Rattle.pc_reasons.proofs.told_lines.put_each.Goals as goal

abbrev none : BadLine
none = record { number = 0; fault = NoCommand }

pub returns-in_err-put_bad_line : goal.returns-in_err-put_bad_line
returns-in_err-put_bad_line g c =
    let p = err_from_is_err_and c.from_residual.result c.from_residual.ensures.1 in
    rw (p.1, p.2) (puts_stop_at g.W.Write.contents (bad_line_text c.args.name.now) c.args.bad.now c.loop-line.line-index none c.args.out.now c.loop-line.out c.put_bad_line.new.out _ c.loop-line-test.true c.loop-line.invariant.sent (omega (arith, c.loop-line.invariant.counted)) c.in_err-put_bad_line.ensures)

pub loop-line-preserved : goal.loop-line-preserved
loop-line-preserved g c =
    let next = sent_more g.W.Write.contents (bad_line_text c.args.name.now) c.args.bad.now c.loop-line.line-index none c.args.out.now c.loop-line.out c.put_bad_line.new.out c.loop-line-test.true c.loop-line.invariant.sent c.loop-line.invariant.counted c.in_ok-put_bad_line.ensures in
    record { sent = next.0; counted = next.1 }
