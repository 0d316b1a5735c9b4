use Rattle.std.proofs.Common.{◌≡◌, ℕ, Option, Some, false, sym, ◌∙◌, ap}
use Rattle.pc_chain.specs.declared.chain.Chain.{Chain}
use Rattle.pc_types.specs.declared.Mode.{Mode}
use Rattle.pc_types.specs.declared.Outcome.{Outcome}
use Rattle.pc_model.specs.Locks.{outcome, outcome_of_new, outcome_beside}
use Rattle.pc_model.specs.Queues.{stands_in}
use Rattle.pc_model.proofs.QueueLaws.{new_outcome}
use Rattle.pc_locks.specs.States.{queue_at}
use Rattle.pc_locks.specs.Tables.{request_at, IsOwn}
use Rattle.pc_locks.specs.Keepers.{KeptRequests, ids_along, queue_along, queues_of}
use Rattle.pc_locks.proofs.Upgrades.{own_is}
use Rattle.pc_locks.proofs.locks.Locks.outcome.Goals as goal

-- the answer about the queue along the slot's ends is that about the slot's queue
module _ (ends : ℕ → Chain ℕ) (kept now : KeptRequests) (queue : Chain ℕ) (slot t : ℕ) (mode : Mode) (answer : Outcome) (at : queue ≡ ends slot) (same : kept ≡ now) where
  told_at : answer ≡ outcome (queue_along kept queue) t mode → answer ≡ outcome (queue_at (queues_of ends now) slot) t mode
  told_at told = told ∙ ap (λ (q : Chain ℕ). outcome (queue_along kept q) t mode) at ∙ ap (λ (k : KeptRequests). outcome (queue_at (queues_of ends k) slot) t mode) same

  told_again : (previous : Option ℕ) (id : ℕ) → IsOwn kept.nodes.slots (ids_along kept queue) t previous id → answer ≡ outcome_beside (queue_along kept queue) t mode (Some (request_at kept.nodes.slots id)) → answer ≡ outcome (queue_at (queues_of ends now) slot) t mode
  told_again previous id own told = told_at (told ∙ ap (outcome_beside (queue_along kept queue) t mode) (sym (own_is kept.nodes.slots (ids_along kept queue) t previous id own)))

  told_new : stands_in (queue_along kept queue) t ≡ false → answer ≡ outcome_of_new (queue_along kept queue) t mode → answer ≡ outcome (queue_at (queues_of ends now) slot) t mode
  told_new fresh told = told_at (told ∙ sym (new_outcome (queue_along kept queue) t mode fresh))

pub returns-in-Some : goal.returns-in-Some
returns-in-Some g c =
    told_again (g.E.QueueEnds.ends_of c.args.keeper.now) c.self.inside.table c.args.self.now c.ends-queue.result c.args.slot c.args.transaction c.args.mode c.outcome_again.result c.ends-queue.ensures c.self.view_is c.in-Some.found.previous c.in-Some.found.id c.in-Some.ensures.some c.outcome_again.ensures

pub returns-in-None : goal.returns-in-None
returns-in-None g c =
    told_new (g.E.QueueEnds.ends_of c.args.keeper.now) c.self.inside.table c.args.self.now c.ends-queue.result c.args.slot c.args.transaction c.args.mode c.outcome_of_new.result c.ends-queue.ensures c.self.view_is c.in-None.ensures.none c.outcome_of_new.ensures
