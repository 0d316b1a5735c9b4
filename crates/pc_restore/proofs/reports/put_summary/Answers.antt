use Rattle.std.proofs.lemmas.Result.{err_from_is_err_and}
use Rattle.pc_io.proofs.PutsLaws.{puts_then, puts_stop}
use Rattle.pc_recover.specs.Recovery.{recovery_of}
use Rattle.pc_restore.specs.Reports.{counts_text, details_text}
use Rattle.pc_restore.specs.Recoveries.{names_of}
use Rattle.pc_restore.proofs.reports.put_summary.Goals as goal

pub returns-in_err-put_counts : goal.returns-in_err-put_counts
returns-in_err-put_counts g c =
    let p = err_from_is_err_and c.from_residual.result c.from_residual.ensures.1 in
    rw (p.1, p.2) (puts_stop g.W.Write.contents c.args.out.now c.put_counts.new.out _ (counts_text c.args.recovered.now.point c.args.recovered.now.entries) (details_text (names_of c.args.parts.now) (recovery_of c.args.recovered.now)) c.in_err-put_counts.ensures)

pub returns : goal.returns
returns g c =
    puts_then g.W.Write.contents c.args.out.now c.put_counts.new.out c.put_details.new.out c.put_details.result (counts_text c.args.recovered.now.point c.args.recovered.now.entries) (details_text (names_of c.args.parts.now) (recovery_of c.args.recovered.now)) c.in_ok-put_counts.ensures c.put_details.ensures
