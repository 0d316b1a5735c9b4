use Rattle.std.proofs.Common.{ap}
use Rattle.pc_locks.specs.Tables.{lists_in}
use Rattle.pc_locks.proofs.Soundness.{ends_new, queues_new}
use Rattle.pc_locks.proofs.locks.Locks.new.Goals as goal

pub returns-clause-ends : goal.returns-clause-ends
returns-clause-ends c = λ ends e. ends_new ends c.new-table.result c.new-table.ensures.nodes c.new-table.ensures.entries e

pub returns-clause-queues : goal.returns-clause-queues
returns-clause-queues c = λ ends e u. queues_new ends c.new-table.result e u

pub returns-clause-lists : goal.returns-clause-lists
returns-clause-lists c = ap (lists_in c.new-table.result.nodes.slots) c.new-table.ensures.entries
