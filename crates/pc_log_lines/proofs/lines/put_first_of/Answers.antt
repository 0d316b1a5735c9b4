use Rattle.std.proofs.Common.{◌++◌, codes}
use Rattle.std.proofs.lemmas.Result.{err_from_is_err_and}
use Rattle.std.specs.List.{flat_map}
use Rattle.pc_io.proofs.PutsLaws.{puts_then, puts_stop}
use Rattle.pc_log_lines.specs.Lines.{later_words, write_words}
use Rattle.pc_log_lines.proofs.lines.put_first_of.Goals as goal

pub returns-in_err-put_write : goal.returns-in_err-put_write
returns-in_err-put_write g c =
    let p = err_from_is_err_and c.from_residual.result c.from_residual.ensures.1 in
    rw (p.1, p.2) (puts_stop g.W.Write.contents c.args.out.now c.put_write.new.out _ (codes " " ++ write_words c.args.first.now) (flat_map later_words c.args.later.now) c.in_err-put_write.ensures)

pub returns : goal.returns
returns g c = puts_then g.W.Write.contents c.args.out.now c.put_write.new.out c.put_later.new.out c.put_later.result (codes " " ++ write_words c.args.first.now) (flat_map later_words c.args.later.now) c.in_ok-put_write.ensures c.put_later.ensures
