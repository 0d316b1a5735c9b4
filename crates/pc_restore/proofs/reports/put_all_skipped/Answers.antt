use Rattle.std.proofs.Common.{arith, subst, Err}
use Rattle.std.proofs.lemmas.Result.{err_from_is_err_and}
use Rattle.pc_io.specs.Tallies.{Puts}
use Rattle.pc_io.proofs.PutsLaws.{puts_stop_at}
use Rattle.pc_restore.specs.Reports.{skipped_line}
use Rattle.pc_restore.specs.Recoveries.{names_of}
use Rattle.pc_texts.proofs.SentLaws.{sent_more}
use Rattle.pc_restore.proofs.reports.put_all_skipped.Goals as goal

pub returns-in_err-put_skipped : goal.returns-in_err-put_skipped
returns-in_err-put_skipped g c =
    let p = err_from_is_err_and c.from_residual.result c.from_residual.ensures.1 in
    rw (p.1, p.2) (puts_stop_at g.W.Write.contents (skipped_line (names_of c.args.parts.now)) c.args.skipped.now c.loop-one.one-index c.one-item.result c.args.out.now c.loop-one.out c.put_skipped.new.out _ c.loop-one-test.true c.loop-one.invariant.sent (omega (arith, c.loop-one.invariant.counted))
    (subst (λ e. Puts g.W.Write.contents c.loop-one.out c.put_skipped.new.out (Err c.in_err-put_skipped.field-0.0) (skipped_line (names_of c.args.parts.now) e)) c.one-item.is c.in_err-put_skipped.ensures))

pub loop-one-preserved : goal.loop-one-preserved
loop-one-preserved g c =
    let next = sent_more g.W.Write.contents (skipped_line (names_of c.args.parts.now)) c.args.skipped.now c.loop-one.one-index c.one-item.result c.args.out.now c.loop-one.out c.put_skipped.new.out c.loop-one-test.true c.one-item.is c.loop-one.invariant.sent c.loop-one.invariant.counted c.in_ok-put_skipped.ensures in
    record { sent = next.0; counted = next.1 }
