use Rattle.std.proofs.Common.{codes}
use Rattle.std.proofs.lemmas.Result.{err_from_is_err_and}
use Rattle.pc_io.proofs.PutsLaws.{puts_then, puts_stop}
use Rattle.pc_log_lines.specs.Lines.{entry_words}
use Rattle.pc_log_lines.proofs.lines.put_entry_end.Goals as goal

pub returns-in_err-put_entry : goal.returns-in_err-put_entry
returns-in_err-put_entry g c =
    let p = err_from_is_err_and c.from_residual.result c.from_residual.ensures.1 in
    rw (p.1, p.2) (puts_stop g.W.Write.contents c.args.out.now c.put_entry.new.out _ (entry_words c.args.entry.now) (codes "\n") c.in_err-put_entry.ensures)

pub returns : goal.returns
returns g c = puts_then g.W.Write.contents c.args.out.now c.put_entry.new.out c.put.new.self c.put.result (entry_words c.args.entry.now) (codes "\n") c.in_ok-put_entry.ensures c.put.ensures
