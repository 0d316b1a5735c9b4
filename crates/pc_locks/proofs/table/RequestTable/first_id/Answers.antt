use Rattle.std.proofs.Common.{◌≡◌, sym, subst}
use Rattle.pc_locks.specs.Lines.{IsQueue}
use Rattle.pc_locks.specs.States.{first_in_list}
use Rattle.pc_locks.specs.Tables.{links_in}
use Rattle.pc_locks.specs.Keepers.{KeptRequests, ids_along}
use Rattle.pc_locks.proofs.QueueLines.{first_id}
use Rattle.pc_locks.proofs.table.RequestTable.first_id.Goals as goal

pub returns : goal.returns
returns c = subst (λ (v : KeptRequests). c.first.result ≡ first_in_list (ids_along v c.args.queue)) c.self.view_is
    (first_id (links_in c.self.inside.nodes.slots) c.args.queue c.first.result (subst (λ (v : KeptRequests). IsQueue (links_in v.nodes.slots) c.args.queue) (sym c.self.view_is) c.requires) c.first.ensures)
