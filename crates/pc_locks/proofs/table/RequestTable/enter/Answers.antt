use Rattle.std.proofs.Common.{subst}
use Rattle.pc_locks.specs.Lines.{ids_by}
use Rattle.pc_locks.specs.Changes.{IsRequestAdded}
use Rattle.pc_locks.specs.Tables.{Placed, links_in}
use Rattle.pc_locks.proofs.Growing.{added_lines, added_fresh, added_linked}
use Rattle.pc_locks.proofs.TableLemmas.{Added, added_table, added_queues, added_list, added_others}
use Rattle.pc_locks.proofs.table.RequestTable.enter.Goals as goal
use Rattle.pc_locks.proofs.table.RequestTable.enter.Goals.{After-link}
use Rattle.pc_locks.proofs.table.RequestTable.enter.Given as given

pub link-requires-clause-lines : goal.link-requires-clause-lines
link-requires-clause-lines g c = (added_lines c.args.self.now c.add.new.self _ c.in_ok-id.id c.in_ok-id.ensures.added (g.E.QueueEnds.ends_of c.args.keeper.now) c.requires.tied).kept

pub link-requires-clause-fresh : goal.link-requires-clause-fresh
link-requires-clause-fresh g c = added_fresh c.args.self.now c.add.new.self _ c.in_ok-id.id c.in_ok-id.ensures.added (g.E.QueueEnds.ends_of c.args.keeper.now) c.requires.tied

entered : (g : given.Over) (c : After-link g) → Added c.args.self.now.nodes.slots c.link.new.self.nodes.slots (ids_by (links_in c.args.self.now.nodes.slots) (g.E.QueueEnds.ends_of c.args.keeper.now)) (ids_by (links_in c.link.new.self.nodes.slots) (g.E.QueueEnds.ends_of c.link.new.keeper))
    c.args.self.now.entries c.link.new.self.entries c.args.slot c.in_ok-id.id (record { transaction = c.args.transaction; mode = c.args.mode; granted = c.args.granted })
entered g c =
    let request : Placed = record { request = record { transaction = c.args.transaction; mode = c.args.mode; granted = c.args.granted }; slot = c.args.slot } in
    let added = subst (λ slot. IsRequestAdded c.args.self.now c.add.new.self (record request { slot = slot }) c.in_ok-id.id) c.slot.view_is c.in_ok-id.ensures.added in
    added_linked c.args.self.now c.add.new.self request c.in_ok-id.id added (g.E.QueueEnds.ends_of c.args.keeper.now) c.requires.tied c.link.new.self (g.E.QueueEnds.ends_of c.link.new.keeper) c.link.ensures.linked c.link.ensures.nodes c.link.ensures.entries

pub returns-clause-tied : goal.returns-clause-tied
returns-clause-tied g c = record { lines = c.link.ensures.linked.kept; table = added_table _ _ _ _ _ _ _ _ _ (entered g c) }

pub returns-clause-entered : goal.returns-clause-entered
returns-clause-entered g c = record {
  queues = added_queues _ _ _ _ _ _ _ _ _ (entered g c);
  list = added_list _ _ _ _ _ _ _ _ _ (entered g c);
  others = added_others _ _ _ _ _ _ _ _ _ (entered g c);
}
