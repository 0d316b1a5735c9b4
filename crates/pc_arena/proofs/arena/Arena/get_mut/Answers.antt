use Rattle.std.proofs.Common.{refl, ◌∙◌, ap, Some, rules}
use Rattle.pc_arena.specs.Cells.{item_of}
use Rattle.pc_chain.specs.Slots.{with_item, Slots}
use Rattle.pc_arena.proofs.Columns.{column_read, item_with, link_with}
use Rattle.pc_arena.proofs.CellKeeping.{kept_changed, slots_with_item, taken_in, taken_seen, seen_item}
use Rattle.pc_arena.proofs.arena.Arena.get_mut.Goals as goal

pub invariant_of-self-lent : goal.invariant_of-self-lent
invariant_of-self-lent g c = λ left.
    (kept_changed _ _ _ _ c.args.id c.index_mut.result.now _ left c.id.view_is (search rules) (item_with c.index_mut.result.now left) (link_with c.index_mut.result.now left) (taken_seen _ _ _ c.args.id c.self.view_is c.requires) c.self.invariant.0, (search rules))

pub returns : goal.returns
returns g c =
    let taken = taken_in _ c.args.id (taken_seen _ _ _ c.args.id c.self.view_is c.requires) in
    let read = column_read item_of c.self.inside.cells.cells.items _ c.args.id c.index_mut.result.now c.id.view_is taken (search rules) in (
      (refl, λ left. slots_with_item _ _ _ c.args.id c.index_mut.result.now _ (Some left) c.id.view_is (search rules) (item_with c.index_mut.result.now left) (link_with c.index_mut.result.now left) taken ∙ ap (λ (s : Slots g.row.T.Denot). with_item s c.args.id (Some left)) c.self.view_is),
      record { lends = tt; value = seen_item _ _ _ c.args.id c.self.view_is ∙ (read ∙ c.item_mut.ensures.value) },
    )
