use Rattle.std.proofs.Common.{codes}
use Rattle.std.proofs.lemmas.Result.{err_from_is_err_and}
use Rattle.pc_io.proofs.PutsLaws.{puts_then, puts_stop}
use Rattle.pc_restore.specs.Reports.{count_line}
use Rattle.pc_restore.proofs.reports.put_counts.Goals as goal

pub returns-in_err-put_point : goal.returns-in_err-put_point
returns-in_err-put_point g c =
    let p = err_from_is_err_and c.from_residual.result c.from_residual.ensures.1 in
    rw (p.1, p.2) (puts_stop g.W.Write.contents c.args.out.now c.put_point.new.out _ (count_line (codes "point ") c.args.point) (count_line (codes "entries ") c.args.entries) c.in_err-put_point.ensures)

pub returns : goal.returns
returns g c =
    puts_then g.W.Write.contents c.args.out.now c.put_point.new.out c.put_count.new.out c.put_count.result (count_line (codes "point ") c.args.point) (count_line (codes "entries ") c.args.entries) c.in_ok-put_point.ensures c.put_count.ensures
