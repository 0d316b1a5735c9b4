use Rattle.std.proofs.Common.{◌≡◌}
use Rattle.pc_locks.specs.Lines.{ids_of}
use Rattle.pc_locks.specs.Tables.{links_in}
use Rattle.pc_locks.proofs.Grants.{Granting}
use Rattle.pc_locks.proofs.table.RequestTable.grant.Given as goal

-- the lists stay, and the requests before this place are granted
abbrev pub invariant-loop : goal.invariant-loop
invariant-loop l =
    (links_in l.self.nodes.slots ≡ links_in l.fn.self.nodes.slots) × (l.self.entries ≡ l.fn.self.entries)
    × Granting l.fn.self.nodes.slots l.self.nodes.slots (ids_of (links_in l.fn.self.nodes.slots) l.fn.queue) l.is_first l.are_shared l.at l.counter
