use Rattle.std.proofs.Common.{◌++◌, codes}
use Rattle.std.proofs.lemmas.Result.{err_from_is_err_and}
use Rattle.pc_io.proofs.PutsLaws.{puts_then, puts_stop}
use Rattle.pc_texts.specs.Texts.{printed_name}
use Rattle.pc_texts.proofs.files.report_words.Goals as goal

pub returns-in_err-begin_line : goal.returns-in_err-begin_line
returns-in_err-begin_line g c =
    let p = err_from_is_err_and c.from_residual.result c.from_residual.ensures.1 in
    rw (p.1, p.2) (puts_stop g.E.Write.contents c.args.errors.now c.begin_line.new.errors _ (codes "pcalc: " ++ printed_name c.args.name.now) (codes ": " ++ (c.args.words.now ++ codes "\n")) c.in_err-begin_line.ensures)

pub returns : goal.returns
returns g c =
    puts_then g.E.Write.contents c.args.errors.now c.begin_line.new.errors c.put_all.new.self c.put_all.result (codes "pcalc: " ++ printed_name c.args.name.now) (codes ": " ++ (c.args.words.now ++ codes "\n")) c.in_ok-begin_line.ensures c.put_all.ensures
