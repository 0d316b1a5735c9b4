use Rattle.std.proofs.Common.{sym, ap, subst}
use Rattle.pc_model.specs.Queues.{AreOnce}
use Rattle.pc_locks.specs.Lines.{ids_of, ids_by}
use Rattle.pc_locks.specs.States.{IsReleased}
use Rattle.pc_locks.specs.Tables.{links_in, requests}
use Rattle.pc_locks.specs.Keepers.{KeptRequests, state_of, AreLocksSound}
use Rattle.pc_locks.proofs.LocksLemmas.{Released, once_left}
use Rattle.pc_locks.proofs.Soundness.{released_in, released_all, sound_released}
use Rattle.pc_locks.proofs.locks.Locks.release_one.Given as given
use Rattle.pc_locks.proofs.locks.Locks.release_one.Goals as goal
use Rattle.pc_locks.proofs.locks.Locks.release_one.Goals.{After-grant}

pub take-requires-clause-held : goal.take-requires-clause-held
take-requires-clause-held g c = (subst (AreLocksSound (g.E.QueueEnds.has c.args.keeper.now) (g.E.QueueEnds.ends_of c.args.keeper.now)) (sym c.self.view_is) c.requires.sound).held

pub grant-requires-clause-once : goal.grant-requires-clause-once
grant-requires-clause-once g c =
    let ends = g.E.QueueEnds.ends_of c.args.keeper.now in
    let new_ends = g.E.QueueEnds.ends_of c.take.new.keeper in
    let kept = c.self.inside.table in
    let taken = c.take.new.self in
    let a = subst (AreLocksSound (g.E.QueueEnds.has c.args.keeper.now) ends) (sym c.self.view_is) c.requires.sound in
    subst (λ x. AreOnce (requests taken.nodes.slots (ids_of (links_in taken.nodes.slots) x))) (sym c.ends.ensures)
    (once_left kept.nodes.slots taken.nodes.slots (ids_by (links_in kept.nodes.slots) ends) (ids_by (links_in taken.nodes.slots) new_ends) c.in_ok-slot.slot c.args.transaction (a.ends_are.settled.settled c.in_ok-slot.slot).1 c.in_ok-slot.ensures.taken.queues)

done : (g : given.Over) (c : After-grant g) → Released c.self.inside.table.nodes.slots c.take.new.self.nodes.slots c.grant.new.self.nodes.slots
    (ids_by (links_in c.self.inside.table.nodes.slots) (g.E.QueueEnds.ends_of c.args.keeper.now)) (ids_by (links_in c.take.new.self.nodes.slots) (g.E.QueueEnds.ends_of c.take.new.keeper))
    c.self.inside.table.entries c.take.new.self.entries c.in_ok-slot.slot c.args.transaction
done g c =
    let ends = g.E.QueueEnds.ends_of c.args.keeper.now in
    let taken = c.take.new.self in
    let a = subst (AreLocksSound (g.E.QueueEnds.has c.args.keeper.now) ends) (sym c.self.view_is) c.requires.sound in
    released_in ends (g.E.QueueEnds.ends_of c.take.new.keeper) c.self.inside.table taken c.grant.new.self.nodes.slots (ids_of (links_in taken.nodes.slots) c.ends.result) c.in_ok-slot.slot c.args.transaction a.ends_are c.in_ok-slot.ensures.tied (ap (ids_of (links_in taken.nodes.slots)) c.ends.ensures)
    c.in_ok-slot.ensures.given c.in_ok-slot.ensures.taken.list c.in_ok-slot.ensures.taken.others c.in_ok-slot.ensures.taken.queues c.grant.ensures.granted c.grant.ensures.places c.grant.ensures.others

pub returns-clause-sound : goal.returns-clause-sound
returns-clause-sound g c =
    let has = g.E.QueueEnds.has c.args.keeper.now in
    let ends = g.E.QueueEnds.ends_of c.args.keeper.now in
    let a = subst (AreLocksSound has ends) (sym c.self.view_is) c.requires.sound in
    sound_released ends (g.E.QueueEnds.ends_of c.take.new.keeper) c.self.inside.table c.take.new.self c.grant.new.self c.in_ok-slot.slot c.args.transaction (done g c) c.grant.ensures.links c.grant.ensures.entries
    has (g.E.QueueEnds.has c.take.new.keeper) a c.in_ok-slot.ensures.tied c.in_ok-slot.ensures.has (λ u h. (g.met.E.QueueEnds.beside_has c.args.keeper.now c.take.new.keeper u c.in_ok-slot.ensures.beside).0 h)

pub returns-clause-released : goal.returns-clause-released
returns-clause-released g c =
    let ends = g.E.QueueEnds.ends_of c.args.keeper.now in
    let new_ends = g.E.QueueEnds.ends_of c.take.new.keeper in
    subst (λ (k : KeptRequests). IsReleased (state_of ends k) (state_of new_ends c.grant.new.self) c.args.transaction c.in_ok-slot.slot) c.self.view_is
    (released_all ends new_ends c.self.inside.table c.take.new.self c.grant.new.self c.in_ok-slot.slot c.args.transaction (done g c) c.grant.ensures.links c.grant.ensures.entries c.in_ok-slot.ensures.taken)
