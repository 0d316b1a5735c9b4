use Rattle.std.proofs.Common.{refl, sym, ◌∙◌, ap, rules}
use Rattle.pc_arena.specs.Cells.{link_of}
use Rattle.pc_chain.specs.Slots.{at}
use Rattle.pc_arena.proofs.Columns.{map_same}
use Rattle.pc_arena.proofs.FreeLists.{taken_avoids}
use Rattle.pc_arena.proofs.CellKeeping.{kept_given, line_set, taken_in, taken_seen, seen_given, seen_link}
use Rattle.pc_arena.proofs.arena.Arena.free_slot.Goals as goal

pub push_back-requires-clause-stands : goal.push_back-requires-clause-stands
push_back-requires-clause-stands g c =
    let k = c.self.invariant.0 in
    (k.ids, line_set _ _ k.ids _ c.index_mut.result.now _ (search rules) c.take_item-item.ensures.link k.list.line, taken_avoids _ k.ids c.args.id k.list.bare (taken_seen _ _ _ c.args.id c.self.view_is c.requires))

pub invariant_of-self : goal.invariant_of-self
invariant_of-self g c =
    let k = c.self.invariant.0 in
    let taken = taken_seen _ _ _ c.args.id c.self.view_is c.requires in
    let apart = taken_avoids _ k.ids c.args.id k.list.bare taken in (
      kept_given _ _ _ _ _ _ c.args.id _ c.id.view_is c.take_item-item.ensures.item taken c.push_back.ensures.beside.0 k apart
          (c.push_back.ensures.added.list k.ids (line_set _ _ k.ids _ c.index_mut.result.now _ (search rules) c.take_item-item.ensures.link k.list.line) apart),
      (search rules),
    )

pub returns-clause-items : goal.returns-clause-items
returns-clause-items g c =
    seen_given _ _ _ _ _ c.args.id _ c.self.view_is c.id.view_is c.take_item-item.ensures.item (taken_in _ c.args.id (taken_seen _ _ _ c.args.id c.self.view_is c.requires)) c.push_back.ensures.beside.0

pub returns-clause-links : goal.returns-clause-links
returns-clause-links g c = λ other n h.
    let k = c.self.invariant.0 in
    let taken = taken_seen _ _ _ other c.self.view_is h in
    seen_link _ _ _ other refl
    ∙ (c.push_back.ensures.added.links k.ids other (line_set _ _ k.ids _ c.index_mut.result.now _ (search rules) c.take_item-item.ensures.link k.list.line) (taken_avoids _ k.ids other k.list.bare taken) n
    ∙ (ap (λ (ls : _). at ls other) (map_same link_of _ _ c.index_mut.result.now _ (search rules) c.take_item-item.ensures.link) ∙ sym (seen_link _ _ _ other c.self.view_is)))
