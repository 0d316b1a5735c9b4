use Rattle.pc_sessions.proofs.SessionSetLaws.{added}
use Rattle.pc_sessions.proofs.sessions.SessionSet.add.Goals as goal

pub returns : goal.returns
returns c = λ s. added c.self.inside.bits c.args.self.now c.bit_of.result c.args.session s c.self.view_is c.bit_of.ensures
