use Rattle.pc_threads.proofs.clients.run_work.Goals as goal

pub returns-in-Once : goal.returns-in-Once
returns-in-Once g c = rw c.in-Once.is (record { done = c.run_job.ensures.done; stopped = c.run_job.ensures.stopped })

pub returns-in-Fill : goal.returns-in-Fill
returns-in-Fill g c = rw c.in-Fill.is (record { done = c.run_fill.ensures.done; stopped = c.run_fill.ensures.stopped })
