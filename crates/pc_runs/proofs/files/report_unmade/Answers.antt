use Rattle.pc_runs.proofs.files.report_unmade.Goals as goal

pub returns-in-Base : goal.returns-in-Base
returns-in-Base g c = rw c.in-Base.is c.report.ensures

pub returns-in-Log : goal.returns-in-Log
returns-in-Log g c = rw c.in-Log.is c.report-in-Log.ensures
