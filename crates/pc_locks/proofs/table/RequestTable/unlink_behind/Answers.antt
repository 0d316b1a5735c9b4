use Rattle.std.proofs.Common.{◌++◌, sym, ◌∙◌, ap, subst}
use Rattle.pc_locks.specs.Lines.{ids_by, IsLine, AreLines, LineBecomes}
use Rattle.pc_locks.specs.States.{rest_of_list}
use Rattle.pc_locks.specs.Tables.{links_in}
use Rattle.pc_locks.specs.Keepers.{KeptRequests}
use Rattle.pc_locks.proofs.LineLemmas.{same_last}
use Rattle.pc_locks.proofs.QueueLines.{slot_remove}
use Rattle.pc_locks.proofs.table.RequestTable.unlink_behind.Goals as goal

pub unlink_after-requires : goal.unlink_after-requires
unlink_after-requires g c =
    let links = links_in c.args.self.now.nodes.slots in
    let h = c.requires.stands in
    let line = subst (λ x. IsLine links x (h.0 ++ h.1)) (sym c.requires.queue) (subst (IsLine links (g.E.QueueEnds.ends_of c.args.keeper.now c.args.slot)) h.2 (c.requires.lines.line c.args.slot)) in
    (h.0, h.1, subst (λ (v : KeptRequests). IsLine (links_in v.nodes.slots) c.args.queue (h.0 ++ h.1)) (sym c.self.view_is) line, h.3 ∙ sym (same_last h.0))

pub returns-clause-unlinked : goal.returns-clause-unlinked
returns-clause-unlinked g c = λ before rest split p.
    let ends = g.E.QueueEnds.ends_of c.args.keeper.now in
    let new_links = links_in c.unlink_after.new.links.slots in
    let new_ends = g.E.QueueEnds.ends_of c.set_ends.new.self in
    subst (λ (v : KeptRequests). LineBecomes (links_in v.nodes.slots) new_links ends new_ends c.args.slot (before ++ rest_of_list rest)) c.self.view_is
    (slot_remove (links_in c.self.inside.nodes.slots) new_links ends new_ends c.args.slot c.args.queue c.unlink_after.new.self c.args.previous before rest
    (subst (λ (v : KeptRequests). AreLines (links_in v.nodes.slots) (g.E.QueueEnds.ends_of c.args.keeper.now)) (sym c.self.view_is) c.requires.lines) c.requires.queue
    (ap (λ (v : KeptRequests). ids_by (links_in v.nodes.slots) ends c.args.slot) c.self.view_is ∙ split) p c.unlink_after.ensures.taken.list c.unlink_after.ensures.taken.others c.set_ends.ensures.set c.set_ends.ensures.others)
