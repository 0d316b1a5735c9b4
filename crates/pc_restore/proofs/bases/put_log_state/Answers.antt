use Rattle.pc_restore.proofs.bases.put_log_state.Goals as goal

pub returns-in-Missing : goal.returns-in-Missing
returns-in-Missing g c = rw c.in-Missing.is c.put.ensures
