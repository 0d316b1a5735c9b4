use Rattle.std.proofs.lemmas.Result.{err_from_is_err_and}
use Rattle.pc_io.proofs.PutsLaws.{puts_then, puts_stop}
use Rattle.std.proofs.Common.{codes}
use Rattle.pc_texts.specs.Texts.{collapsed_line}
use Rattle.pc_outcomes.specs.Outcomes.{number_line}
use Rattle.pc_outcomes.proofs.run_report.Collapsed.put.Goals as goal

pub returns-in_err-put_collapsed : goal.returns-in_err-put_collapsed
returns-in_err-put_collapsed g c =
    let p = err_from_is_err_and c.from_residual.result c.from_residual.ensures.1 in
    let start = collapsed_line c.args.self.now.points c.args.self.now.entries in
    let end = number_line (codes "state pairs ") c.args.self.now.pairs in
    rw (p.1, p.2) (puts_stop g.W.Write.contents c.args.out.now c.put_collapsed.new.out _ start end (rw c.as_slice.ensures at c.in_err-put_collapsed.ensures))

pub returns : goal.returns
returns g c =
    let start = collapsed_line c.args.self.now.points c.args.self.now.entries in
    let end = number_line (codes "state pairs ") c.args.self.now.pairs in
    puts_then g.W.Write.contents c.args.out.now c.put_collapsed.new.out c.put_number.new.out c.put_number.result start end (rw c.as_slice.ensures at c.in_ok-put_collapsed.ensures) c.put_number.ensures
