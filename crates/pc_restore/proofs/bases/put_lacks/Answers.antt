use Rattle.std.proofs.lemmas.Result.{err_from_is_err_and}
use Rattle.pc_io.proofs.PutsLaws.{puts_then, puts_stop}
use Rattle.pc_recover.specs.Recovery.{recovery_of}
use Rattle.pc_restore.specs.Bases.{log_state_line}
use Rattle.pc_restore.specs.Recoveries.{names_of}
use Rattle.pc_restore.specs.Reports.{damage_text}
use Rattle.pc_restore.proofs.bases.put_lacks.Goals as goal

pub returns-in_err-put_log_state : goal.returns-in_err-put_log_state
returns-in_err-put_log_state g c =
    let p = err_from_is_err_and c.from_residual.result c.from_residual.ensures.1 in
    rw (p.1, p.2) (puts_stop g.E.Write.contents c.args.errors.now c.put_log_state.new.errors _ (log_state_line c.args.lacks.now.header c.args.lacks.now.unused) (damage_text (names_of c.args.parts.now) (recovery_of c.args.recovered.now)) c.in_err-put_log_state.ensures)

pub returns : goal.returns
returns g c =
    puts_then g.E.Write.contents c.args.errors.now c.put_log_state.new.errors c.put_damage.new.out c.put_damage.result (log_state_line c.args.lacks.now.header c.args.lacks.now.unused) (damage_text (names_of c.args.parts.now) (recovery_of c.args.recovered.now)) c.in_ok-put_log_state.ensures c.put_damage.ensures
