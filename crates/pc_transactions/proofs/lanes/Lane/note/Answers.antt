use Rattle.std.proofs.Common.{rules, length, ap, arith}
use Rattle.pc_transactions.proofs.Noted.{no_fewer}
use Rattle.pc_transactions.proofs.lanes.Lane.note.Goals as goal

pub invariant_of-self : goal.invariant_of-self
invariant_of-self c = (search rules, omega (arith, c.push_reserved.ensures.len, c.self.invariant.1, c.len-known.ensures, c.if-known-len.true, c.len.ensures, ap length c.note.ensures, no_fewer c.self.inside.writes.items c.args.write))
