use Rattle.std.proofs.Common.{◌≡◌, ◌≢◌, map, sym, subst}
use Rattle.pc_dirty.specs.declared.side.SideSlot.{SideSlot}
use Rattle.pc_table.specs.Rows.{with_record_in, with_record}
use Rattle.pc_slots.specs.declared.cells.Cell.{Cell}
use Rattle.pc_records.specs.SetLists.{next_in, HasPlace, KeepRecords}
use Rattle.pc_records.proofs.Unlinked.{link_set, link_kept, place_stays, records_kept}
use Rattle.pc_records.proofs.links.TableCellLinksBySets.set_next.Goals as goal

pub returns-clause-set : goal.returns-clause-set
returns-clause-set c =
    subst (λ (y : Cell). next_in (map (with_record_in c.args.id.slot y) c.args.self.now.rows) c.args.id ≡ c.args.next) (sym c.put_link.ensures) (link_set c.args.self.now c.get_mut.ensures.slots c.args.id c.args.next c.get_mut.result.now c.get_mut.ensures.record_of)

pub returns-clause-others : goal.returns-clause-others
returns-clause-others c =
    subst (λ (y : Cell). (other : SideSlot) → other ≢ c.args.id → next_in (map (with_record_in c.args.id.slot y) c.args.self.now.rows) other ≡ next_in c.args.self.now.rows other) (sym c.put_link.ensures) (link_kept c.args.self.now c.get_mut.ensures.slots c.args.id c.args.next c.get_mut.result.now c.get_mut.ensures.record_of)

pub returns-clause-has : goal.returns-clause-has
returns-clause-has c =
    subst (λ (y : Cell). (other : SideSlot) → HasPlace c.args.self.now.rows other → HasPlace (map (with_record_in c.args.id.slot y) c.args.self.now.rows) other) (sym c.put_link.ensures) (place_stays c.args.self.now c.get_mut.ensures.slots c.args.id c.args.next c.get_mut.result.now c.get_mut.ensures.record_of)

pub returns-clause-beside : goal.returns-clause-beside
returns-clause-beside c =
    subst (λ (y : Cell). KeepRecords c.args.self.now (with_record c.args.self.now c.args.id.slot y)) (sym c.put_link.ensures) (records_kept c.args.self.now c.get_mut.ensures.slots c.args.id c.args.next c.get_mut.result.now c.get_mut.ensures.record_of)
