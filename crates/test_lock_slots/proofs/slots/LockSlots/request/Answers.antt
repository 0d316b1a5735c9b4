use Rattle.std.proofs.Common.{sym, ◌∙◌}
use Rattle.test_lock_slots.specs.Rows.{ends_at}
use Rattle.test_lock_slots.proofs.slots.LockSlots.request.Goals as goal

pub request-requires-clause-ready : goal.request-requires-clause-ready
request-requires-clause-ready c = sym (c.is_waiting.ensures (ends_at c.self.inside.row.ends.items) c.self.invariant.1.ends_are) ∙ c.if-is_waiting.false
