use Rattle.std.proofs.Common.{ℕ, ◌++◌, ◌∷◌, [], false, ◌≡◌, sym, subst}
use Rattle.pc_locks.specs.Lines.{ids_by, IsLine, AreLines, LineBecomes}
use Rattle.pc_locks.specs.States.{is_listed}
use Rattle.pc_locks.specs.Tables.{links_in}
use Rattle.pc_locks.specs.Keepers.{KeptRequests}
use Rattle.pc_locks.proofs.LineLemmas.{avoids_unlisted}
use Rattle.pc_locks.proofs.QueueLines.{slot_push}
use Rattle.pc_locks.proofs.table.RequestTable.link.Goals as goal

pub push_back-requires-clause-stands : goal.push_back-requires-clause-stands
push_back-requires-clause-stands g c =
    let ends = g.E.QueueEnds.ends_of c.args.keeper.now in
    let ids = ids_by (links_in c.args.self.now.nodes.slots) ends c.args.slot in (
      ids,
      subst (λ (v : KeptRequests). IsLine (links_in v.nodes.slots) c.args.queue ids) (sym c.self.view_is) (subst (λ x. IsLine (links_in c.args.self.now.nodes.slots) x ids) (sym c.requires.queue) (c.requires.lines.line c.args.slot)),
      avoids_unlisted c.args.id ids (c.requires.fresh c.args.slot),
    )

pub returns-clause-linked : goal.returns-clause-linked
returns-clause-linked g c =
    let ends = g.E.QueueEnds.ends_of c.args.keeper.now in
    let new_links = links_in c.push_back.new.links.slots in
    let new_ends = g.E.QueueEnds.ends_of c.set_ends.new.self in
    subst (λ (v : KeptRequests). LineBecomes (links_in v.nodes.slots) new_links ends new_ends c.args.slot (ids_by (links_in v.nodes.slots) ends c.args.slot ++ c.args.id ∷ [])) c.self.view_is
    (slot_push (links_in c.self.inside.nodes.slots) new_links ends new_ends c.args.slot c.args.id c.args.queue c.push_back.new.self
    (subst (λ (v : KeptRequests). AreLines (links_in v.nodes.slots) (g.E.QueueEnds.ends_of c.args.keeper.now)) (sym c.self.view_is) c.requires.lines) c.requires.queue
    (subst (λ (v : KeptRequests). (u : ℕ) → is_listed (ids_by (links_in v.nodes.slots) ends u) c.args.id ≡ false) (sym c.self.view_is) c.requires.fresh)
    c.push_back.ensures.added.list c.push_back.ensures.added.others c.set_ends.ensures.set c.set_ends.ensures.others)
