use Rattle.std.proofs.Common.{codes}
use Rattle.std.proofs.lemmas.Result.{err_from_is_err_and}
use Rattle.pc_texts.specs.Texts.{printed}
use Rattle.pc_io.proofs.PutsLaws.{puts_then, puts_stop}
use Rattle.pc_log_lines.proofs.lines.put_value.Goals as goal

pub returns-in_err-put : goal.returns-in_err-put
returns-in_err-put g c =
    let p = err_from_is_err_and c.from_residual.result c.from_residual.ensures.1 in
    rw (p.1, p.2) (puts_stop g.W.Write.contents c.args.out.now c.put.new.self _ (codes " ") (printed c.args.value.now) c.in_err-put.ensures)

pub returns : goal.returns
returns g c = puts_then g.W.Write.contents c.args.out.now c.put.new.self c.put_printed.new.out c.put_printed.result (codes " ") (printed c.args.value.now) c.in_ok-put.ensures (rw c.as_bytes.ensures.bytes at c.put_printed.ensures)
