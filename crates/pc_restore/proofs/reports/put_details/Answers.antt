use Rattle.std.proofs.Common.{codes, length, refl}
use Rattle.std.proofs.lemmas.Result.{err_from_is_err_and}
use Rattle.pc_io.proofs.PutsLaws.{puts_then, puts_stop}
use Rattle.pc_model.specs.Database.{database_of}
use Rattle.pc_recover.specs.Recovery.{recovery_of}
use Rattle.pc_texts.proofs.StatePairLaws.{pairs_of}
use Rattle.pc_restore.specs.Reports.{count_line, damage_text}
use Rattle.pc_restore.specs.Recoveries.{names_of}
use Rattle.pc_restore.proofs.reports.put_details.Goals as goal

pub returns-in_err-put_damage : goal.returns-in_err-put_damage
returns-in_err-put_damage g c =
    let p = err_from_is_err_and c.from_residual.result c.from_residual.ensures.1 in
    rw (p.1, p.2) (puts_stop g.W.Write.contents c.args.out.now c.put_damage.new.out _ (damage_text (names_of c.args.parts.now) (recovery_of c.args.recovered.now)) (count_line (codes "pairs ") (length (recovery_of c.args.recovered.now).pairs.entries)) c.in_err-put_damage.ensures)

pub returns : goal.returns
returns g c =
    let pairs = pairs_of c.args.recovered.now.pairs.items (database_of c.args.recovered.now.pairs.items) c.requires.rise refl in
    puts_then g.W.Write.contents c.args.out.now c.put_damage.new.out c.put_pair_count.new.out c.put_pair_count.result (damage_text (names_of c.args.parts.now) (recovery_of c.args.recovered.now)) (count_line (codes "pairs ") (length (recovery_of c.args.recovered.now).pairs.entries)) c.in_ok-put_damage.ensures (rw (c.deref.ensures.value, ← pairs) at c.put_pair_count.ensures)
