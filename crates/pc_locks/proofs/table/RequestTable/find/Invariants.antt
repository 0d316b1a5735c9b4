use Rattle.pc_locks.specs.Lines.{ids_of}
use Rattle.pc_locks.specs.Tables.{links_in}
use Rattle.pc_locks.proofs.Walks.{Walked}
use Rattle.pc_locks.proofs.table.RequestTable.find.Given as goal

abbrev pub invariant-loop : goal.invariant-loop
invariant-loop l = Walked l.self.nodes.slots (ids_of (links_in l.self.nodes.slots) l.fn.queue) l.test l.previous l.at l.counter
