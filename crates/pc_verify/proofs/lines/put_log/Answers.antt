use Rattle.std.proofs.lemmas.Result.{err_from_is_err_and}
use Rattle.pc_io.proofs.PutsLaws.{puts_then, puts_stop}
use Rattle.pc_verify.specs.Lines.{head_words, log_words}
use Rattle.pc_verify.proofs.lines.put_log.Goals as goal

pub returns-in_err-put_head : goal.returns-in_err-put_head
returns-in_err-put_head g c =
    let p = err_from_is_err_and c.from_residual.result c.from_residual.ensures.1 in
    rw (p.1, p.2) (puts_stop g.W.Write.contents c.args.out.now c.put_head.new.out _ (head_words c.args.head.now) (log_words c.args.entries) c.in_err-put_head.ensures)

pub returns : goal.returns
returns g c = puts_then g.W.Write.contents c.args.out.now c.put_head.new.out c.put_entries.new.out c.put_entries.result (head_words c.args.head.now) (log_words c.args.entries) c.in_ok-put_head.ensures c.put_entries.ensures
