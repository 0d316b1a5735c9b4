use Rattle.std.proofs.Common.{refl}
use Rattle.std.proofs.lemmas.Result.{err_from_is_err_and}
use Rattle.pc_io.proofs.PutsLaws.{puts_then, puts_stop}
use Rattle.pc_model.specs.Database.{database_of}
use Rattle.pc_recover.specs.Recovery.{recovery_of}
use Rattle.pc_texts.proofs.StatePairLaws.{pairs_of}
use Rattle.pc_restore.specs.Reports.{pairs_text, summary_text}
use Rattle.pc_restore.specs.Recoveries.{names_of}
use Rattle.pc_restore.proofs.reports.put_recovered.Goals as goal

pub returns-in_err-put_summary : goal.returns-in_err-put_summary
returns-in_err-put_summary g c =
    let p = err_from_is_err_and c.from_residual.result c.from_residual.ensures.1 in
    rw (p.1, p.2) (puts_stop g.W.Write.contents c.args.out.now c.put_summary.new.out _ (summary_text (names_of c.args.parts.now) (recovery_of c.args.recovered.now)) (pairs_text c.args.has_pairs (recovery_of c.args.recovered.now).pairs.entries) c.in_err-put_summary.ensures)

pub returns : goal.returns
returns g c =
    let pairs = pairs_of c.args.recovered.now.pairs.items (database_of c.args.recovered.now.pairs.items) c.requires.rise refl in
    puts_then g.W.Write.contents c.args.out.now c.put_summary.new.out c.put_all_pairs.new.out c.put_all_pairs.result (summary_text (names_of c.args.parts.now) (recovery_of c.args.recovered.now)) (pairs_text c.args.has_pairs (recovery_of c.args.recovered.now).pairs.entries) c.in_ok-put_summary.ensures (rw (c.deref.ensures.value, ← pairs) at c.put_all_pairs.ensures)
