use Rattle.std.proofs.Common.{◌≡◌, ℕ, true, false, is_some, sym, ◌∙◌, ap, subst}
use Rattle.std.specs.Prelude.{IfOk}
use Rattle.pc_model.specs.Queues.{stands_in}
use Rattle.pc_model.proofs.QueueLaws.{stands_is}
use Rattle.pc_locks.specs.Lines.{ids_of, ids_by}
use Rattle.pc_locks.specs.States.{queue_at, is_waiting_in_state, IsRequestAnswered}
use Rattle.pc_locks.specs.Tables.{links_in, requests, IsOwn}
use Rattle.pc_locks.specs.Keepers.{KeptRequests, queues_of, state_of, AreLocksSound}
use Rattle.pc_locks.proofs.LocksLemmas.{Answered, own_at}
use Rattle.pc_locks.proofs.Soundness.{answered_in, answered_all, sound_answered, sound_first}
use Rattle.pc_locks.proofs.Turns.{answer_queues, answer_others, first_told, first_list}
use Rattle.pc_locks.proofs.locks.Locks.request.Given as given
use Rattle.pc_locks.proofs.locks.Locks.request.Goals as goal
use Rattle.pc_locks.proofs.locks.Locks.request.Goals.{After-again, After-first}

-- the own request answered again
answered : (g : given.Over) (c : After-again g) → Answered c.self.inside.table.nodes.slots c.again.new.self.nodes.slots (ids_by (links_in c.self.inside.table.nodes.slots) (g.E.QueueEnds.ends_of c.args.keeper.now)) c.self.inside.table.entries c.args.slot c.args.transaction c.args.mode c.again.result
answered g c =
    let ends = g.E.QueueEnds.ends_of c.args.keeper.now in
    let kept = c.self.inside.table in
    let a = subst (AreLocksSound (g.E.QueueEnds.has c.args.keeper.now) ends) (sym c.self.view_is) c.requires.sound in
    let ready = ap (λ (k : KeptRequests). is_waiting_in_state (state_of ends k) c.args.transaction) c.self.view_is ∙ c.requires.ready in
    answered_in ends kept c.again.new.self.nodes.slots (ids_of (links_in kept.nodes.slots) c.ends-queue.result) c.args.slot c.args.transaction c.in-Some.found.previous c.in-Some.found.id c.args.mode c.again.result a.ends_are (ap (ids_of (links_in kept.nodes.slots)) c.ends-queue.ensures)
    ready c.in-Some.ensures.some c.again.ensures.told c.again.ensures.queue c.again.ensures.places c.again.ensures.others

pub returns-in-Some-clause-sound : goal.returns-in-Some-clause-sound
returns-in-Some-clause-sound g c =
    let has = g.E.QueueEnds.has c.args.keeper.now in
    let ends = g.E.QueueEnds.ends_of c.args.keeper.now in
    let a = subst (AreLocksSound has ends) (sym c.self.view_is) c.requires.sound in
    sound_answered ends c.self.inside.table c.again.new.self c.args.slot c.args.transaction c.args.mode c.again.result (answered g c) c.again.ensures.links c.again.ensures.entries has a c.requires.has

pub returns-in-Some-clause-answered : goal.returns-in-Some-clause-answered
returns-in-Some-clause-answered g c =
    let ends = g.E.QueueEnds.ends_of c.args.keeper.now in
    let kept = c.self.inside.table in
    let q = queue_at (queues_of ends kept) c.args.slot in
    let own = subst (λ xs. IsOwn kept.nodes.slots xs c.args.transaction c.in-Some.found.previous c.in-Some.found.id) (ap (ids_of (links_in kept.nodes.slots)) c.ends-queue.ensures) c.in-Some.ensures.some in
    let stood : stands_in q c.args.transaction ≡ true =
    sym (stands_is q c.args.transaction) ∙ ap is_some (own_at kept.nodes.slots (ids_by (links_in kept.nodes.slots) ends) c.args.slot c.args.transaction c.in-Some.found.previous c.in-Some.found.id own) in
    subst (λ (k : KeptRequests). IsRequestAnswered (state_of ends k) (state_of ends c.again.new.self) c.args.transaction c.args.slot c.args.mode c.again.result) c.self.view_is
    (answered_all ends kept c.again.new.self c.args.slot c.args.transaction c.args.mode c.again.result (answered g c) c.again.ensures.links c.again.ensures.entries stood)

-- a queue of these ids has no request of the transaction
fresh : (g : given.Over) (c : After-first g) → stands_in (queue_at (queues_of (g.E.QueueEnds.ends_of c.args.keeper.now) c.self.inside.table) c.args.slot) c.args.transaction ≡ false
fresh g c = ap (λ x. stands_in (requests c.self.inside.table.nodes.slots (ids_of (links_in c.self.inside.table.nodes.slots) x)) c.args.transaction) (sym c.ends-queue.ensures) ∙ c.in-None.ensures.none

pub returns-in-None-clause-sound : goal.returns-in-None-clause-sound
returns-in-None-clause-sound g c =
    let has = g.E.QueueEnds.has c.args.keeper.now in
    let ends = g.E.QueueEnds.ends_of c.args.keeper.now in
    let new_ends = g.E.QueueEnds.ends_of c.first.new.keeper in
    let a = subst (AreLocksSound has ends) (sym c.self.view_is) c.requires.sound in
    let ready = ap (λ (k : KeptRequests). is_waiting_in_state (state_of ends k) c.args.transaction) c.self.view_is ∙ c.requires.ready in
    let stays : (u : ℕ) → g.E.QueueEnds.has c.args.keeper.now u → g.E.QueueEnds.has c.first.new.keeper u = λ u h. (g.met.E.QueueEnds.beside_has c.args.keeper.now c.first.new.keeper u c.first.ensures.beside).0 h in
    sound_first c.first.result (λ o. o) has (g.E.QueueEnds.has c.first.new.keeper) ends new_ends c.self.inside.table c.first.new.self c.args.slot c.args.transaction c.args.mode a
    (stays c.args.slot c.requires.has) stays (fresh g c) ready c.first.ensures.tied
    (first_told (state_of ends c.self.inside.table) (state_of new_ends c.first.new.self) c.args.transaction c.args.slot c.args.mode c.first.result (fresh g c) c.first.ensures.answered)
    (answer_queues (state_of ends c.self.inside.table) (state_of new_ends c.first.new.self) c.args.transaction c.args.slot c.args.mode c.first.result c.first.ensures.answered)
    (first_list (state_of ends c.self.inside.table) (state_of new_ends c.first.new.self) c.args.transaction c.args.slot c.args.mode c.first.result (fresh g c) c.first.ensures.answered)
    (answer_others (state_of ends c.self.inside.table) (state_of new_ends c.first.new.self) c.args.transaction c.args.slot c.args.mode c.first.result c.first.ensures.answered c.first.ensures.err) c.first.ensures.err

pub returns-in-None-clause-answered : goal.returns-in-None-clause-answered
returns-in-None-clause-answered g c =
    let ends = g.E.QueueEnds.ends_of c.args.keeper.now in
    let new_ends = g.E.QueueEnds.ends_of c.first.new.keeper in
    subst (λ (k : KeptRequests). IfOk c.first.result (IsRequestAnswered (state_of ends k) (state_of new_ends c.first.new.self) c.args.transaction c.args.slot c.args.mode)) c.self.view_is c.first.ensures.answered
