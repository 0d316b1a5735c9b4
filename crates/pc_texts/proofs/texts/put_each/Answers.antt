use Rattle.std.proofs.Common.{arith, subst, Err}
use Rattle.std.proofs.lemmas.Result.{err_from_is_err_and}
use Rattle.pc_io.specs.Tallies.{Puts}
use Rattle.pc_io.proofs.PutsLaws.{puts_stop_at}
use Rattle.pc_texts.specs.Texts.{pair_text}
use Rattle.pc_texts.proofs.SentLaws.{sent_more}
use Rattle.pc_texts.proofs.texts.put_each.Goals as goal

pub returns-in_err-put_pair : goal.returns-in_err-put_pair
returns-in_err-put_pair g c =
    let p = err_from_is_err_and c.from_residual.result c.from_residual.ensures.1 in
    rw (p.1, p.2) (puts_stop_at g.W.Write.contents pair_text c.args.pairs.now c.loop-pair.pair-index c.pair-item.result c.args.out.now c.loop-pair.out c.put_pair.new.out _ c.loop-pair-test.true c.loop-pair.invariant.sent (omega (arith, c.loop-pair.invariant.counted))
    (subst (λ e. Puts g.W.Write.contents c.loop-pair.out c.put_pair.new.out (Err c.in_err-put_pair.field-0.0) (pair_text e)) c.pair-item.is c.in_err-put_pair.ensures))

pub loop-pair-preserved : goal.loop-pair-preserved
loop-pair-preserved g c =
    let next = sent_more g.W.Write.contents pair_text c.args.pairs.now c.loop-pair.pair-index c.pair-item.result c.args.out.now c.loop-pair.out c.put_pair.new.out c.loop-pair-test.true c.pair-item.is c.loop-pair.invariant.sent c.loop-pair.invariant.counted c.in_ok-put_pair.ensures in
    record { sent = next.0; counted = next.1 }
