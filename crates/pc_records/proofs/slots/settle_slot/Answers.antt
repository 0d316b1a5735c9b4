use Rattle.std.proofs.Common.{sym, ◌∙◌}
use Rattle.pc_records.specs.SetLists.{open_slots, closed_slots}
use Rattle.pc_records.proofs.Settling.{Settles, linked_after, avoids, fits, has_after, stays_out, goes_in}
use Rattle.pc_table.specs.Rows.{with_record}
use Rattle.pc_records.proofs.Unlinked.{ends_keep}
use Rattle.pc_records.proofs.EndsKept.{ends_changed}
use Rattle.pc_records.proofs.slots.settle_slot.Goals as goal
use Rattle.pc_records.proofs.slots.settle_slot.Goals.{After-add_new, Else-is_new}

pub add_new-requires-clause-has : goal.add_new-requires-clause-has
add_new-requires-clause-has c =
    has_after c.args.table.now c.get_mut.ensures.slots c.args.sets.now c.requires.listed c.args.id c.get_mut.result.now c.settle-is_new.new.slot c.get_mut.ensures.record_of c.args.point
    c.open_side-side.result c.open_side-side.ensures c.settle-is_new.ensures.slot c.settle-is_new.ensures.links (sym c.if-is_new.true ∙ c.settle-is_new.ensures.fresh) c.requires.row

pub add_new-requires-clause-stands : goal.add_new-requires-clause-stands
add_new-requires-clause-stands c = (
  open_slots c.args.table.now.rows c.args.sets.now,
  closed_slots c.args.table.now.rows c.args.sets.now,
  linked_after c.args.table.now c.get_mut.ensures.slots c.args.sets.now c.requires.listed c.args.id c.get_mut.result.now c.settle-is_new.new.slot c.get_mut.ensures.record_of c.args.point
      c.open_side-side.result c.open_side-side.ensures c.settle-is_new.ensures.slot c.settle-is_new.ensures.links (sym c.if-is_new.true ∙ c.settle-is_new.ensures.fresh),
  avoids c.args.table.now c.get_mut.ensures.slots c.args.sets.now c.requires.listed c.args.id c.get_mut.result.now c.settle-is_new.new.slot c.get_mut.ensures.record_of c.args.point
      c.open_side-side.result c.open_side-side.ensures c.settle-is_new.ensures.slot c.settle-is_new.ensures.links (sym c.if-is_new.true ∙ c.settle-is_new.ensures.fresh),
  fits c.args.table.now c.get_mut.ensures.slots c.args.sets.now c.requires.listed c.args.id c.get_mut.result.now c.settle-is_new.new.slot c.get_mut.ensures.record_of c.args.point
      c.open_side-side.result c.open_side-side.ensures c.settle-is_new.ensures.slot c.settle-is_new.ensures.links (sym c.if-is_new.true ∙ c.settle-is_new.ensures.fresh),
)

-- the slot goes in, or it doesn't
goes : (c : After-add_new) → Settles c.args.table.now c.add_new.new.links c.args.sets.now c.add_new.new.self c.args.point c.args.id
goes c =
    goes_in c.args.table.now c.get_mut.ensures.slots c.args.sets.now c.requires.listed c.args.id c.get_mut.result.now c.settle-is_new.new.slot c.get_mut.ensures.record_of c.args.point
    c.open_side-side.result c.open_side-side.ensures c.settle-is_new.ensures.slot c.settle-is_new.ensures.links (sym c.if-is_new.true ∙ c.settle-is_new.ensures.fresh)
    c.add_new.new.links c.add_new.new.self c.add_new.ensures.side c.add_new.ensures.beside (c.add_new.ensures.sets (open_slots c.args.table.now.rows c.args.sets.now) (closed_slots c.args.table.now.rows c.args.sets.now)
    (linked_after c.args.table.now c.get_mut.ensures.slots c.args.sets.now c.requires.listed c.args.id c.get_mut.result.now c.settle-is_new.new.slot c.get_mut.ensures.record_of c.args.point
    c.open_side-side.result c.open_side-side.ensures c.settle-is_new.ensures.slot c.settle-is_new.ensures.links (sym c.if-is_new.true ∙ c.settle-is_new.ensures.fresh))
    (avoids c.args.table.now c.get_mut.ensures.slots c.args.sets.now c.requires.listed c.args.id c.get_mut.result.now c.settle-is_new.new.slot c.get_mut.ensures.record_of c.args.point
    c.open_side-side.result c.open_side-side.ensures c.settle-is_new.ensures.slot c.settle-is_new.ensures.links (sym c.if-is_new.true ∙ c.settle-is_new.ensures.fresh)))

stays : (c : Else-is_new) → Settles c.args.table.now (with_record c.args.table.now c.args.id c.settle-is_new.new.slot) c.args.sets.now c.args.sets.now c.args.point c.args.id
stays c =
    stays_out c.args.table.now c.get_mut.ensures.slots c.args.sets.now c.requires.listed c.args.id c.get_mut.result.now c.settle-is_new.new.slot c.get_mut.ensures.record_of c.args.point
    c.open_side-side.result c.open_side-side.ensures c.settle-is_new.ensures.slot c.settle-is_new.ensures.links (sym c.if-is_new.false ∙ c.settle-is_new.ensures.fresh)

pub returns-then-is_new-clause-slots : goal.returns-then-is_new-clause-slots
returns-then-is_new-clause-slots c = (goes c).slots

pub returns-then-is_new-clause-listed : goal.returns-then-is_new-clause-listed
returns-then-is_new-clause-listed c = (goes c).listed

pub returns-then-is_new-clause-opened : goal.returns-then-is_new-clause-opened
returns-then-is_new-clause-opened c = (goes c).opened

pub returns-then-is_new-clause-closed : goal.returns-then-is_new-clause-closed
returns-then-is_new-clause-closed c = (goes c).closed

pub returns-else-is_new-clause-slots : goal.returns-else-is_new-clause-slots
returns-else-is_new-clause-slots c = (stays c).slots

pub returns-else-is_new-clause-listed : goal.returns-else-is_new-clause-listed
returns-else-is_new-clause-listed c = (stays c).listed

pub returns-else-is_new-clause-opened : goal.returns-else-is_new-clause-opened
returns-else-is_new-clause-opened c = (stays c).opened

pub returns-else-is_new-clause-closed : goal.returns-else-is_new-clause-closed
returns-else-is_new-clause-closed c = (stays c).closed

pub returns-then-is_new-clause-ends : goal.returns-then-is_new-clause-ends
returns-then-is_new-clause-ends c =
    ends_keep (with_record c.args.table.now c.args.id c.settle-is_new.new.slot) c.add_new.new.links c.add_new.ensures.beside
    ∙ ends_changed c.args.table.now.rows c.args.id c.get_mut.result.now c.settle-is_new.new.slot c.get_mut.ensures.record_of c.settle-is_new.ensures.ends

pub returns-else-is_new-clause-ends : goal.returns-else-is_new-clause-ends
returns-else-is_new-clause-ends c = ends_changed c.args.table.now.rows c.args.id c.get_mut.result.now c.settle-is_new.new.slot c.get_mut.ensures.record_of c.settle-is_new.ensures.ends
