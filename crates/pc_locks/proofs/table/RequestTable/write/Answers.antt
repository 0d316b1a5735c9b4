use Rattle.std.proofs.Common.{◌∙◌, sym, ap, subst}
use Rattle.pc_locks.specs.Lines.{entry_ids, AreIdLists}
use Rattle.pc_locks.specs.Tables.{links_in}
use Rattle.pc_locks.specs.Keepers.{KeptRequests}
use Rattle.pc_locks.proofs.table.RequestTable.write.Goals as goal

pub invariant_of-self : goal.invariant_of-self
invariant_of-self c = subst (λ links. AreIdLists links c.self.inside.ends) (sym c.put_request.ensures.own) c.self.invariant

pub returns-clause-links : goal.returns-clause-links
returns-clause-links c = c.put_request.ensures.links ∙ ap (λ (v : KeptRequests). links_in v.nodes.slots) c.self.view_is

pub returns-clause-entries : goal.returns-clause-entries
returns-clause-entries c = ap (λ links. entry_ids links c.self.inside.ends) c.put_request.ensures.own ∙ ap (λ (v : KeptRequests). v.entries) c.self.view_is
