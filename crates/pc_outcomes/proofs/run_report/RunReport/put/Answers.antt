use Rattle.std.proofs.lemmas.Result.{err_from_is_err_and}
use Rattle.pc_io.proofs.PutsLaws.{puts_then, puts_stop}
use Rattle.pc_outcomes.specs.Outcomes.{run_counts_text, left_text}
use Rattle.pc_outcomes.proofs.run_report.RunReport.put.Goals as goal

pub returns-in_err-put_counts : goal.returns-in_err-put_counts
returns-in_err-put_counts g c =
    let p = err_from_is_err_and c.from_residual.result c.from_residual.ensures.1 in
    let start = run_counts_text c.args.self.now in
    let end = left_text c.args.self.now.left in
    rw (p.1, p.2) (puts_stop g.W.Write.contents c.args.out.now c.put_counts.new.out _ start end c.in_err-put_counts.ensures)

pub returns : goal.returns
returns g c =
    let start = run_counts_text c.args.self.now in
    let end = left_text c.args.self.now.left in
    puts_then g.W.Write.contents c.args.out.now c.put_counts.new.out c.put.new.out c.put.result start end c.in_ok-put_counts.ensures c.put.ensures
