use Rattle.std.proofs.Common.{length, sym, ap, ◌∙◌, arith}
use Rattle.pc_kept_log.proofs.LentWriteLaws.{one_more, rest_counted, never_fails}
use Rattle.pc_kept_log.proofs.lent_writes.LentWritesIterator.next.Goals as goal

pub invariant_of-self : goal.invariant_of-self
invariant_of-self c = rest_counted c.self.inside.count c.self.inside.bytes.now c.if-self-eq0.false c.in-Ok.write c.in-Ok.rest.now c.in-Ok.ensures c.self.invariant

pub unreachable-requires : goal.unreachable-requires
unreachable-requires c = never_fails c.self.inside.count c.self.inside.bytes.now c.if-self-eq0.false c.in-Err.field-0 c.in-Err.ensures c.self.invariant

pub returns-clause-steps : goal.returns-clause-steps
returns-clause-steps c = sym c.self.view_is ∙ one_more c.self.inside.count c.self.inside.bytes.now c.if-self-eq0.false c.in-Ok.write c.in-Ok.rest.now c.in-Ok.ensures

pub returns-clause-goes : goal.returns-clause-goes
returns-clause-goes c =
    let steps = sym c.self.view_is ∙ one_more c.self.inside.count c.self.inside.bytes.now c.if-self-eq0.false c.in-Ok.write c.in-Ok.rest.now c.in-Ok.ensures in
    record { on = λ _. (tt, tt, omega (arith, ap length steps)); keeps = tt; rests = λ _. tt }
