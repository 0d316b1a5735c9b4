use Rattle.std.proofs.lemmas.Result.{err_from_is_err_and}
use Rattle.pc_io.proofs.PutsLaws.{puts_then, puts_stop}
use Rattle.pc_log_lines.specs.Lines.{write_words}
use Rattle.pc_log_lines.proofs.lines.put_write.Goals as goal

pub returns-in_err-put : goal.returns-in_err-put
returns-in_err-put g c =
    let p = err_from_is_err_and c.from_residual.result c.from_residual.ensures.1 in
    rw (p.1, p.2) (puts_stop g.W.Write.contents c.args.out.now c.put.new.self _ c.args.before.now (write_words c.args.write.now) c.in_err-put.ensures)

pub returns : goal.returns
returns g c = puts_then g.W.Write.contents c.args.out.now c.put.new.self c.put_change.new.out c.put_change.result c.args.before.now (write_words c.args.write.now) c.in_ok-put.ensures c.put_change.ensures
