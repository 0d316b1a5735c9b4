use Rattle.std.proofs.Common.{◌∙◌, ℕ, Option, ap}
use Rattle.pc_locks.specs.Lines.{ends_at}
use Rattle.pc_locks.specs.States.{slots_of, last_in_list}
use Rattle.pc_locks.specs.Tables.{own_links_in}
use Rattle.pc_locks.specs.Keepers.{KeptRequests}
use Rattle.pc_locks.proofs.ListLemmas.{lists_last}
use Rattle.pc_locks.proofs.table.RequestTable.last.Goals as goal

pub returns : goal.returns
returns c =
    let e = c.ends_of.ensures ∙ ap (ends_at c.self.inside.ends) c.transaction.view_is in
    ap (λ (p : Option ℕ × Option ℕ). p.1) c.ends-last.ensures ∙ lists_last (own_links_in c.self.inside.nodes.slots) c.self.inside.ends c.args.transaction c.ends_of.result c.self.invariant e ∙ ap (λ (v : KeptRequests). last_in_list (slots_of v.entries c.args.transaction)) c.self.view_is
