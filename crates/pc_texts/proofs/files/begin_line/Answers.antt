use Rattle.std.proofs.Common.{codes}
use Rattle.std.proofs.lemmas.Result.{err_from_is_err_and}
use Rattle.pc_io.proofs.PutsLaws.{puts_then, puts_stop}
use Rattle.pc_texts.specs.Texts.{printed_name}
use Rattle.pc_texts.proofs.files.begin_line.Goals as goal

pub returns-in_err-put : goal.returns-in_err-put
returns-in_err-put g c =
    let p = err_from_is_err_and c.from_residual.result c.from_residual.ensures.1 in
    rw (p.1, p.2) (puts_stop g.E.Write.contents c.args.errors.now c.put.new.self _ (codes "pcalc: ") (printed_name c.args.name.now) c.in_err-put.ensures)

pub returns : goal.returns
returns g c = puts_then g.E.Write.contents c.args.errors.now c.put.new.self c.put_name.new.out c.put_name.result (codes "pcalc: ") (printed_name c.args.name.now) c.in_ok-put.ensures c.put_name.ensures
