use Rattle.std.proofs.Common.{arith}
use Rattle.pc_sessions.proofs.SessionSetLaws.{removed}
use Rattle.pc_sessions.proofs.sessions.SessionSet.remove.Goals as goal

pub returns : goal.returns
returns c = λ s. removed c.self.inside.bits c.args.self.now c.bit_of.result c.args.session s c.self.view_is (omega arith) c.bit_of.ensures
