use Rattle.std.proofs.Common.{not, ◌∙◌, sym, ap, subst}
use Rattle.pc_types.specs.declared.Request.{Request}
use Rattle.pc_locks.specs.Lines.{ids_by}
use Rattle.pc_locks.specs.States.{is_waiting_in_state}
use Rattle.pc_locks.specs.Tables.{links_in}
use Rattle.pc_locks.specs.Keepers.{KeptRequests, state_of, AreEnds}
use Rattle.pc_locks.proofs.LocksLemmas.{waits_last, waits_never, ends_keep}
use Rattle.pc_locks.proofs.locks.Locks.is_waiting.Goals as goal

pub returns-in-Some : goal.returns-in-Some
returns-in-Some c = λ ends a.
    let kept = c.self.inside.table in
    ap (λ (r : Request). not r.granted) c.request.ensures
    ∙ (waits_last kept.nodes.slots (ids_by (links_in kept.nodes.slots) ends) kept.entries c.args.transaction c.in-Some.last (ends_keep ends kept (subst (AreEnds ends) (sym c.self.view_is) a)) c.in-Some.ensures
    ∙ ap (λ (k : KeptRequests). is_waiting_in_state (state_of ends k) c.args.transaction) c.self.view_is)

pub returns-in-None : goal.returns-in-None
returns-in-None c = λ ends a.
    let kept = c.self.inside.table in
    waits_never kept.nodes.slots (ids_by (links_in kept.nodes.slots) ends) kept.entries c.args.transaction (ends_keep ends kept (subst (AreEnds ends) (sym c.self.view_is) a)) c.in-None.ensures
    ∙ ap (λ (k : KeptRequests). is_waiting_in_state (state_of ends k) c.args.transaction) c.self.view_is
