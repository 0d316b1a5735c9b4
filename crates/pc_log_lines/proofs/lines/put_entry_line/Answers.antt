use Rattle.std.proofs.Common.{◌++◌, codes, decimal}
use Rattle.std.proofs.lemmas.Result.{err_from_is_err_and}
use Rattle.pc_io.proofs.PutsLaws.{puts_then, puts_stop}
use Rattle.pc_log_lines.specs.Lines.{entry_words}
use Rattle.pc_log_lines.proofs.lines.put_entry_line.Goals as goal

pub returns-in_err-put_place : goal.returns-in_err-put_place
returns-in_err-put_place g c =
    let p = err_from_is_err_and c.from_residual.result c.from_residual.ensures.1 in
    rw (p.1, p.2) (puts_stop g.W.Write.contents c.args.out.now c.put_place.new.out _ (decimal c.args.number ++ codes " ") (entry_words c.args.entry.now ++ codes "\n") c.in_err-put_place.ensures)

pub returns : goal.returns
returns g c = puts_then g.W.Write.contents c.args.out.now c.put_place.new.out c.put_entry_end.new.out c.put_entry_end.result (decimal c.args.number ++ codes " ") (entry_words c.args.entry.now ++ codes "\n") c.in_ok-put_place.ensures c.put_entry_end.ensures
