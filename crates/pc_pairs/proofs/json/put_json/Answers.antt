use Rattle.std.proofs.Common.{Err, subst}
use Rattle.std.proofs.lemmas.Result.{err_from_is_err_and}
use Rattle.pc_pairs.specs.Dumps.{PutsUntil, line_text}
use Rattle.pc_pairs.specs.declared.form.Form.TheVariants as form
use Rattle.pc_texts.proofs.SentLaws.{sent_more}
use Rattle.pc_pairs.proofs.DumpLaws.{until_at}
use Rattle.pc_pairs.proofs.json.put_json.Goals as goal

pub returns-in_err-put_line : goal.returns-in_err-put_line
returns-in_err-put_line g c =
    let p = err_from_is_err_and c.from_residual.result c.from_residual.ensures.1 in
    rw (p.1, p.2) (until_at g.W.Write.contents (line_text form.Json) c.args.pairs.now c.loop-pair.pair-index c.pair-item.result c.args.out.now c.loop-pair.out c.put_line.new.out _ c.loop-pair-test.true c.loop-pair.invariant.sent c.loop-pair.invariant.counted
    (subst (λ e. PutsUntil g.W.Write.contents c.loop-pair.out c.put_line.new.out (Err c.in_err-put_line.field-0.0) (line_text form.Json e)) c.pair-item.is c.in_err-put_line.ensures))

pub loop-pair-preserved : goal.loop-pair-preserved
loop-pair-preserved g c =
    let more = sent_more g.W.Write.contents (line_text form.Json) c.args.pairs.now c.loop-pair.pair-index c.pair-item.result c.args.out.now c.loop-pair.out c.put_line.new.out c.loop-pair-test.true c.pair-item.is c.loop-pair.invariant.sent c.loop-pair.invariant.counted c.in_ok-put_line.ensures in
    record { sent = more.0; counted = more.1 }
