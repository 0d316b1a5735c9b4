use Rattle.pc_transactions.proofs.sessions.Sessions.committed.Goals as goal

pub returns-clause-contents : goal.returns-clause-contents
returns-clause-contents c = rw (← c.self.view_is) c.committed.ensures.contents
