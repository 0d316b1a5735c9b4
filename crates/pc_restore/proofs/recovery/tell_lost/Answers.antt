use Rattle.pc_restore.proofs.recovery.tell_lost.Goals as goal

pub returns-in-Base : goal.returns-in-Base
returns-in-Base g c = rw (c.in-Base.is, ← c.refusal.ensures) (c.report.result, c.report.ensures)

pub returns-in-Log : goal.returns-in-Log
returns-in-Log g c = rw (c.in-Log.is, ← c.refusal-in-Log.ensures) (c.report-in-Log.result, c.report-in-Log.ensures)
