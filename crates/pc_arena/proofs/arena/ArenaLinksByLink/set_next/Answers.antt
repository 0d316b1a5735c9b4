use Rattle.std.proofs.Common.{sym, ◌∙◌, ap, rules, subst, set}
use Rattle.pc_chain.specs.Slots.{at, IsTaken, Slots}
use Rattle.pc_chain.proofs.SlotLaws.{at_other}
use Rattle.pc_arena.proofs.CellKeeping.{taken_in, taken_seen, link_here, kept_linked, slots_with_link}
use Rattle.pc_arena.proofs.arena.ArenaLinksByLink.set_next.Goals as goal

pub invariant_of-self : goal.invariant_of-self
invariant_of-self g c =
    (kept_linked _ _ _ _ c.args.id c.index_mut.result.now _ c.id.view_is (search rules) c.put_link.ensures.item (taken_seen c.self.inside.capacity c.self.inside.cells.cells.items _ c.args.id c.self.view_is c.requires) c.self.invariant.0, (search rules))

pub returns-clause-set : goal.returns-clause-set
returns-clause-set g c =
    link_here c.self.inside.capacity c.self.inside.cells.cells.items _ c.args.id _ c.id.view_is (taken_in c.self.inside.cells.cells.items c.args.id (taken_seen c.self.inside.capacity c.self.inside.cells.cells.items _ c.args.id c.self.view_is c.requires)) ∙ c.put_link.ensures.link

pub returns-clause-others : goal.returns-clause-others
returns-clause-others g c = λ other n.
    let e = slots_with_link c.self.inside.capacity c.self.inside.cells.cells.items _ c.args.id c.index_mut.result.now _ c.args.next c.id.view_is (search rules) c.put_link.ensures.item c.put_link.ensures.link (taken_in c.self.inside.cells.cells.items c.args.id (taken_seen c.self.inside.capacity c.self.inside.cells.cells.items _ c.args.id c.self.view_is c.requires)) in
    ap (λ (s : Slots g.row.T.Denot). at s.links other) e ∙ (at_other _ c.args.id other c.args.next n ∙ ap (λ (s : Slots g.row.T.Denot). at s.links other) c.self.view_is)

pub returns-clause-has : goal.returns-clause-has
returns-clause-has g c = λ other h.
    let e = slots_with_link c.self.inside.capacity c.self.inside.cells.cells.items _ c.args.id c.index_mut.result.now _ c.args.next c.id.view_is (search rules) c.put_link.ensures.item c.put_link.ensures.link (taken_in c.self.inside.cells.cells.items c.args.id (taken_seen c.self.inside.capacity c.self.inside.cells.cells.items _ c.args.id c.self.view_is c.requires)) in
    subst (λ (s : Slots g.row.T.Denot). IsTaken s.items other) (sym (e ∙ ap (λ (s : Slots g.row.T.Denot). record s { links = set s.links c.args.id c.args.next }) c.self.view_is)) h

pub returns-clause-beside : goal.returns-clause-beside
returns-clause-beside g c =
    let e = slots_with_link c.self.inside.capacity c.self.inside.cells.cells.items _ c.args.id c.index_mut.result.now _ c.args.next c.id.view_is (search rules) c.put_link.ensures.item c.put_link.ensures.link (taken_in c.self.inside.cells.cells.items c.args.id (taken_seen c.self.inside.capacity c.self.inside.cells.cells.items _ c.args.id c.self.view_is c.requires)) in
    ap (λ (s : Slots g.row.T.Denot). s.items) (e ∙ ap (λ (s : Slots g.row.T.Denot). record s { links = set s.links c.args.id c.args.next }) c.self.view_is)
