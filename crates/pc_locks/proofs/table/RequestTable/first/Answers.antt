use Rattle.std.proofs.Common.{ℕ, ◌∙◌, ap}
use Rattle.pc_chain.specs.declared.chain.Chain.{Chain}
use Rattle.pc_model.specs.Locks.{outcome_of_new}
use Rattle.pc_locks.specs.Keepers.{queue_along, state_of}
use Rattle.pc_locks.proofs.Turns.{first_died, first_queued, first_granted}
use Rattle.pc_locks.proofs.table.RequestTable.first.Goals as goal

pub returns-in-Died-clause-answered : goal.returns-in-Died-clause-answered
returns-in-Died-clause-answered g c =
    first_died (state_of (g.E.QueueEnds.ends_of c.args.keeper.now) c.args.self.now) c.args.transaction c.args.slot c.args.mode c.outcome_of_new-answer.result c.requires.fresh
    (c.outcome_of_new-answer.ensures ∙ ap (λ (q : Chain ℕ). outcome_of_new (queue_along c.args.self.now q) c.args.transaction c.args.mode) c.requires.queue) c.in-Died.is

pub returns-in_ok-enter-in-Granted-clause-answered : goal.returns-in_ok-enter-in-Granted-clause-answered
returns-in_ok-enter-in-Granted-clause-answered g c =
    first_granted (state_of (g.E.QueueEnds.ends_of c.args.keeper.now) c.args.self.now) c.args.transaction c.args.slot c.args.mode c.outcome_of_new-answer.result c.requires.fresh
    (c.outcome_of_new-answer.ensures ∙ ap (λ (q : Chain ℕ). outcome_of_new (queue_along c.args.self.now q) c.args.transaction c.args.mode) c.requires.queue)
    (state_of (g.E.QueueEnds.ends_of c.enter-in-Granted.new.keeper) c.enter-in-Granted.new.self) c.in-Granted.is c.in_ok-enter-in-Granted.ensures.entered

pub returns-in_ok-enter-in-Queued-clause-answered : goal.returns-in_ok-enter-in-Queued-clause-answered
returns-in_ok-enter-in-Queued-clause-answered g c =
    first_queued (state_of (g.E.QueueEnds.ends_of c.args.keeper.now) c.args.self.now) c.args.transaction c.args.slot c.args.mode c.outcome_of_new-answer.result c.requires.fresh
    (c.outcome_of_new-answer.ensures ∙ ap (λ (q : Chain ℕ). outcome_of_new (queue_along c.args.self.now q) c.args.transaction c.args.mode) c.requires.queue)
    (state_of (g.E.QueueEnds.ends_of c.enter-in-Queued.new.keeper) c.enter-in-Queued.new.self) c.in-Queued.is c.in_ok-enter-in-Queued.ensures.entered
