use Rattle.std.proofs.Common.{sym}
use Rattle.pc_latch.proofs.Passing.{first_length}
use Rattle.pc_latch.proofs.pass.LogPass.len.Goals as goal

pub returns-clause-len : goal.returns-clause-len
returns-clause-len g c = sym (first_length c.self.inside.count _ c.args.self.now c.self.invariant.0 c.self.view_is)

pub returns-clause-legal : goal.returns-clause-legal
returns-clause-legal g c = (c.self.inside.witness, c.self.invariant.3, c.self.invariant.0)
