use Rattle.std.proofs.Common.{◌≤◌, length, sym, subst}
use Rattle.std.proofs.lemmas.List.{length-map}
use Rattle.pc_locks.specs.Tables.{links_in}
use Rattle.pc_locks.specs.Keepers.{KeptRequests}
use Rattle.pc_locks.proofs.table.RequestTable.most_ids.Goals as goal

pub returns : goal.returns
returns c = subst (λ (v : KeptRequests). length (links_in v.nodes.slots) ≤ c.capacity.result) c.self.view_is (subst (λ n. n ≤ c.capacity.result) (sym (length-map c.self.inside.nodes.slots _)) c.capacity.ensures.slots)
