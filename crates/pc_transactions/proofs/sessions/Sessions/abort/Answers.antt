use Rattle.std.proofs.Common.{◌-◌, ◌∙◌, ap}
use Rattle.pc_transactions.specs.Sessions.{actives_of, number_in, class_at, writes_in}
use Rattle.pc_transactions.proofs.Counted.{may_leave}
use Rattle.pc_transactions.proofs.SessionLemmas.{inside_of, is_there, seen_at, set_lane}
use Rattle.pc_transactions.proofs.OngoingLaws.{aborted_stands, ended_view}
use Rattle.pc_transactions.proofs.Together.{none_placed}
use Rattle.pc_transactions.proofs.sessions.Sessions.abort.Goals as goal

pub opened-number-requires : goal.opened-number-requires
opened-number-requires c =
    let inside = inside_of c.self.inside.lanes.items (rw (← c.place.ensures, ← c.self.view_is) at c.requires.place) in
    rw (seen_at c.self.inside.lanes.items c.args.session c.place.result c.index_mut-lane.result.now c.place.ensures inside c.index_mut-lane.ensures.value) (rw (← c.self.view_is) at c.requires.opened)

pub release-requires : goal.release-requires
release-requires c =
    let inside = inside_of c.self.inside.lanes.items (rw (← c.place.ensures, ← c.self.view_is) at c.requires.place) in
    let own = seen_at c.self.inside.lanes.items c.args.session c.place.result c.index_mut-lane.result.now c.place.ensures inside c.index_mut-lane.ensures.value in
    let mine = c.as_slice.ensures.writes ∙ c.writes.ensures ∙ ap writes_in own in
    let held = c.self.invariant.hold in
    none_placed c.self.inside.records c.undo.new.self (actives_of c.self.inside.lanes.items) c.self.inside.begun (c.args.session - 1) c.opened-number.result.number c.as_slice.result.now (record { writes = held.writes; numbers = held.numbers }) (is_there _ (rw (← c.self.view_is) at c.requires.opened))
    mine (ap number_in (c.opened-number.ensures ∙ own)) c.undo.ensures.pending

pub leave-requires : goal.leave-requires
leave-requires c =
    let inside = inside_of c.self.inside.lanes.items (rw (← c.place.ensures, ← c.self.view_is) at c.requires.place) in
    let own = seen_at c.self.inside.lanes.items c.args.session c.place.result c.index_mut-lane.result.now c.place.ensures inside c.index_mut-lane.ensures.value in
    may_leave c.self.inside.phases (actives_of c.self.inside.lanes.items) c.self.invariant.counted (c.args.session - 1) _ (rw (← c.self.view_is) at c.requires.place) (is_there _ (rw (← c.self.view_is) at c.requires.opened)) (ap class_at (c.opened-number.ensures ∙ own))

pub invariant_of-self : goal.invariant_of-self
invariant_of-self c =
    let inside = inside_of c.self.inside.lanes.items (rw (← c.place.ensures, ← c.self.view_is) at c.requires.place) in
    let own = seen_at c.self.inside.lanes.items c.args.session c.place.result c.index_mut-lane.result.now c.place.ensures inside c.index_mut-lane.ensures.value in
    let mine = c.as_slice.ensures.writes ∙ c.writes.ensures ∙ ap writes_in own in
    let gone = set_lane c.self.inside.lanes.items c.args.session c.place.result c.end.new.self _ c.place.ensures c.end.ensures.own in
    aborted_stands _ _ _ _ c.self.invariant c.undo.new.self c.release.new.self _ (c.args.session - 1) _ c.as_slice.result.now c.leave.new.self (rw (← c.self.view_is) at c.requires.place) (is_there _ (rw (← c.self.view_is) at c.requires.opened)) c.undo.ensures.rise
    mine gone (rw (ap class_at (c.opened-number.ensures ∙ own)) at c.leave.ensures.left) c.undo.ensures.rows c.undo.ensures.pending c.undo.ensures.point c.undo.ensures.opened c.undo.ensures.shut
    c.release.ensures

pub returns : goal.returns
returns c =
    let inside = inside_of c.self.inside.lanes.items (rw (← c.place.ensures, ← c.self.view_is) at c.requires.place) in
    let own = seen_at c.self.inside.lanes.items c.args.session c.place.result c.index_mut-lane.result.now c.place.ensures inside c.index_mut-lane.ensures.value in
    let gone = set_lane c.self.inside.lanes.items c.args.session c.place.result c.end.new.self _ c.place.ensures c.end.ensures.own in
    rw (← c.self.view_is) (ended_view c.self.inside.records c.undo.new.self c.release.new.self c.self.inside.phases c.leave.new.self c.self.inside.begun (actives_of c.self.inside.lanes.items) _ c.args.session _ _ _ _ gone (ap number_in (c.opened-number.ensures ∙ own)) (ap class_at (c.opened-number.ensures ∙ own))
    c.undo.ensures.rows c.undo.ensures.opened c.undo.ensures.shut c.release.ensures c.leave.ensures.left)
