use Rattle.pc_outcomes.proofs.run_report.put_file.Goals as goal

pub returns-in-None : goal.returns-in-None
returns-in-None g c = rw c.in-None.is c.put.ensures
