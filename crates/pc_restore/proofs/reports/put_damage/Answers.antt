use Rattle.std.specs.List.{flat_map}
use Rattle.std.proofs.lemmas.Result.{err_from_is_err_and}
use Rattle.pc_io.proofs.PutsLaws.{puts_then, puts_stop}
use Rattle.pc_restore.specs.Reports.{log_line, skipped_line}
use Rattle.pc_restore.specs.Recoveries.{names_of}
use Rattle.pc_restore.proofs.reports.put_damage.Goals as goal

pub returns-in_err-put_log : goal.returns-in_err-put_log
returns-in_err-put_log g c =
    let p = err_from_is_err_and c.from_residual.result c.from_residual.ensures.1 in
    rw (p.1, p.2) (puts_stop g.W.Write.contents c.args.out.now c.put_log.new.out _ (log_line c.args.recovered.now.fault) (flat_map (skipped_line (names_of c.args.parts.now)) c.args.recovered.now.skipped.items) c.in_err-put_log.ensures)

pub returns : goal.returns
returns g c =
    puts_then g.W.Write.contents c.args.out.now c.put_log.new.out c.put_all_skipped.new.out c.put_all_skipped.result (log_line c.args.recovered.now.fault) (flat_map (skipped_line (names_of c.args.parts.now)) c.args.recovered.now.skipped.items) c.in_ok-put_log.ensures (rw c.deref.ensures.value at c.put_all_skipped.ensures)
