use Rattle.pc_workers.proofs.AskedLaws.{open_abort, idle_abort}
use Rattle.pc_workers.proofs.clients.abort_open.Goals as goal

pub returns-clause-open : goal.returns-clause-open
returns-clause-open g c = open_abort g.N.StoreName.name.setting c.args.session.now.number c.args.session.now.seen c.abort.new.session.seen c.abort.result c.abort.ensures.call c.abort.ensures.refused

pub returns-clause-idle : goal.returns-clause-idle
returns-clause-idle g c = idle_abort g.N.StoreName.name.setting c.args.session.now.number c.args.session.now c.abort.new.session c.abort.result c.abort.ensures.call c.abort.ensures.same
