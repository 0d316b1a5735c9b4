use Rattle.std.proofs.Common.{codes}
use Rattle.std.proofs.lemmas.Result.{err_from_is_err_and}
use Rattle.pc_io.proofs.PutsLaws.{puts_then, puts_stop}
use Rattle.pc_texts.specs.Texts.{refusal_text}
use Rattle.pc_texts.proofs.texts.put_refusal.Goals as goal

pub returns-in_err-put : goal.returns-in_err-put
returns-in_err-put g c =
    let p = err_from_is_err_and c.from_residual.result c.from_residual.ensures.1 in
    rw (p.1, p.2) (puts_stop g.W.Write.contents c.args.out.now c.put.new.self _ (codes "refused ") (refusal_text c.args.why) c.in_err-put.ensures)

pub returns : goal.returns
returns g c =
    puts_then g.W.Write.contents c.args.out.now c.put.new.self c.put_reason.new.out c.put_reason.result (codes "refused ") (refusal_text c.args.why) c.in_ok-put.ensures c.put_reason.ensures
