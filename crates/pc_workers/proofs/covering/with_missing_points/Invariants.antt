use Rattle.std.proofs.Common.{◌≡◌}
use Rattle.pc_workers.specs.Covering.{HaveAllTo, HaveOnlyTo}
use Rattle.pc_workers.proofs.covering.with_missing_points.Given as goal

-- there is one of each point so far, and none of others; and the checkpointer has seen no more
abbrev pub invariant-loop-others : goal.invariant-loop-others
invariant-loop-others g l = HaveAllTo l.others l.tickets.items × HaveOnlyTo l.fn.points l.tickets.items × (l.seat ≡ l.fn.seat)
