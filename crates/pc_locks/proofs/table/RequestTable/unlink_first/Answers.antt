use Rattle.std.proofs.Common.{sym, subst}
use Rattle.pc_locks.specs.Lines.{ids_by, IsLine, AreLines, LineBecomes}
use Rattle.pc_locks.specs.States.{rest_of_list}
use Rattle.pc_locks.specs.Tables.{links_in}
use Rattle.pc_locks.specs.Keepers.{KeptRequests}
use Rattle.pc_locks.proofs.QueueLines.{slot_first}
use Rattle.pc_locks.proofs.table.RequestTable.unlink_first.Goals as goal

pub pop_front-requires : goal.pop_front-requires
pop_front-requires g c =
    let ids = ids_by (links_in c.args.self.now.nodes.slots) (g.E.QueueEnds.ends_of c.args.keeper.now) c.args.slot in
    (ids, subst (λ (v : KeptRequests). IsLine (links_in v.nodes.slots) c.args.queue ids) (sym c.self.view_is) (subst (λ x. IsLine (links_in c.args.self.now.nodes.slots) x ids) (sym c.requires.queue) (c.requires.lines.line c.args.slot)))

pub returns-clause-unlinked : goal.returns-clause-unlinked
returns-clause-unlinked g c =
    let ends = g.E.QueueEnds.ends_of c.args.keeper.now in
    let new_ends = g.E.QueueEnds.ends_of c.set_ends.new.self in
    subst (λ (v : KeptRequests). LineBecomes (links_in v.nodes.slots) (links_in v.nodes.slots) ends new_ends c.args.slot (rest_of_list (ids_by (links_in v.nodes.slots) ends c.args.slot))) c.self.view_is
    (slot_first (links_in c.self.inside.nodes.slots) ends new_ends c.args.slot c.args.queue c.pop_front.new.self
    (subst (λ (v : KeptRequests). AreLines (links_in v.nodes.slots) (g.E.QueueEnds.ends_of c.args.keeper.now)) (sym c.self.view_is) c.requires.lines) c.requires.queue
    c.pop_front.ensures.list c.set_ends.ensures.set c.set_ends.ensures.others)
