use Rattle.test_sessions.proofs.logged.TextOfLog.write.Goals as goal

pub log_loop-requires-clause-counts : goal.log_loop-requires-clause-counts
log_loop-requires-clause-counts g c now text gone = c.self.invariant text
