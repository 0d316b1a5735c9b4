use Rattle.pc_log_lines.proofs.lines.put_session.Goals as goal

pub returns : goal.returns
returns g c = rw (← c.session.view_is) c.put_counted.ensures
