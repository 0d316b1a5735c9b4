use Rattle.std.proofs.Common.{◌++◌, codes, decimal}
use Rattle.std.proofs.lemmas.Result.{err_from_is_err_and}
use Rattle.pc_io.proofs.PutsLaws.{puts_then, puts_stop}
use Rattle.pc_log_lines.specs.Lines.{writes_words}
use Rattle.pc_log_lines.proofs.lines.put_commit.Goals as goal

pub returns-in_err-put_session : goal.returns-in_err-put_session
returns-in_err-put_session g c =
    let p = err_from_is_err_and c.from_residual.result c.from_residual.ensures.1 in
    rw (p.1, p.2) (puts_stop g.W.Write.contents c.args.out.now c.put_session.new.out _ (codes "commit session " ++ decimal c.args.session) (writes_words c.args.writes.now) c.in_err-put_session.ensures)

pub returns : goal.returns
returns g c = puts_then g.W.Write.contents c.args.out.now c.put_session.new.out c.put_writes.new.out c.put_writes.result (codes "commit session " ++ decimal c.args.session) (writes_words c.args.writes.now) c.in_ok-put_session.ensures c.put_writes.ensures
