use Rattle.std.proofs.lemmas.Result.{err_from_is_err_and}
use Rattle.pc_io.proofs.PutsLaws.{puts_then, puts_stop}
use Rattle.pc_texts.specs.Texts.{check_line}
use Rattle.pc_outcomes.specs.Outcomes.{file_lines}
use Rattle.pc_outcomes.proofs.run_report.StoreReport.put.Goals as goal

pub returns-in_err-put_file : goal.returns-in_err-put_file
returns-in_err-put_file g c =
    let p = err_from_is_err_and c.from_residual.result c.from_residual.ensures.1 in
    let start = file_lines c.args.self.now.collapsed in
    let end = check_line c.args.self.now.is_right in
    rw (p.1, p.2) (puts_stop g.W.Write.contents c.args.out.now c.put_file.new.out _ start end c.in_err-put_file.ensures)

pub returns : goal.returns
returns g c =
    let start = file_lines c.args.self.now.collapsed in
    let end = check_line c.args.self.now.is_right in
    puts_then g.W.Write.contents c.args.out.now c.put_file.new.out c.put_check.new.out c.put_check.result start end c.in_ok-put_file.ensures c.put_check.ensures
