use Rattle.std.proofs.Common.{arith}
use Rattle.pc_sessions.proofs.SessionSetLaws.{nobody}
use Rattle.pc_sessions.proofs.sessions.SessionSet.is_empty.Goals as goal

pub returns-clause-nobody : goal.returns-clause-nobody
returns-clause-nobody c = nobody c.self.inside.bits c.args.self.now c.self.view_is (omega arith)
