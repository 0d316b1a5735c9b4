use Rattle.std.proofs.Common.{arith, subst, Err}
use Rattle.std.proofs.lemmas.Result.{err_from_is_err_and}
use Rattle.pc_io.specs.Tallies.{Puts}
use Rattle.pc_io.proofs.PutsLaws.{puts_stop_at}
use Rattle.pc_texts.proofs.SentLaws.{sent_more}
use Rattle.pc_log_lines.specs.Lines.{later_words}
use Rattle.pc_log_lines.proofs.lines.put_later.Goals as goal

pub returns-in_err-put_write : goal.returns-in_err-put_write
returns-in_err-put_write g c =
    let p = err_from_is_err_and c.from_residual.result c.from_residual.ensures.1 in
    rw (p.1, p.2) (puts_stop_at g.W.Write.contents later_words c.args.writes.now c.loop-write.write-index c.write-item.result c.args.out.now c.loop-write.out c.put_write.new.out _ c.loop-write-test.true c.loop-write.invariant.sent (omega (arith, c.loop-write.invariant.counted))
    (subst (λ e. Puts g.W.Write.contents c.loop-write.out c.put_write.new.out (Err c.in_err-put_write.field-0.0) (later_words e)) c.write-item.is c.in_err-put_write.ensures))

pub loop-write-preserved : goal.loop-write-preserved
loop-write-preserved g c =
    let next = sent_more g.W.Write.contents later_words c.args.writes.now c.loop-write.write-index c.write-item.result c.args.out.now c.loop-write.out c.put_write.new.out c.loop-write-test.true c.write-item.is c.loop-write.invariant.sent c.loop-write.invariant.counted c.in_ok-put_write.ensures in
    record { sent = next.0; counted = next.1 }
