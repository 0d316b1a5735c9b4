use Rattle.pc_sessions.proofs.SessionSetLaws.{looked_for}
use Rattle.pc_sessions.proofs.sessions.SessionSet.has.Goals as goal

pub returns : goal.returns
returns c = looked_for c.self.inside.bits c.args.self.now c.bit_of.result c.args.session c.self.view_is c.bit_of.ensures
