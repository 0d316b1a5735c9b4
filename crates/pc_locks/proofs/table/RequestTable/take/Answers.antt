use Rattle.std.proofs.Common.{◌≡◌, ◌==◌, true, sym, ◌∙◌, ap, subst}
use Rattle.slab.specs.Slab.{Slab}
use Rattle.pc_model.specs.Queues.{stands_in}
use Rattle.pc_locks.specs.declared.node.Node.{Node}
use Rattle.pc_locks.specs.Lines.{ids_by}
use Rattle.pc_locks.specs.States.{slots_of, first_in_list, rest_of_list, AreDifferent}
use Rattle.pc_locks.specs.Tables.{links_in, node_at, request_at, slot_at, requests, IsUnlinked}
use Rattle.pc_locks.proofs.Growing.{freed_lines, freed_removed}
use Rattle.pc_locks.proofs.RemovalLemmas.{Removed, first_owner, first_stands, none_given, popped_unlisted, removed_table, removed_queues, removed_list, removed_others, removed_given}
use Rattle.pc_locks.proofs.TableLemmas.{found_slots}
use Rattle.pc_locks.proofs.table.RequestTable.take.Goals as goal
use Rattle.pc_locks.proofs.table.RequestTable.take.Goals.{After-free}
use Rattle.pc_locks.proofs.table.RequestTable.take.Given as given

pub returns-in_err-id-clause-given : goal.returns-in_err-id-clause-given
returns-in_err-id-clause-given g c =
    let e = c.in_err-id.ensures.given ∙ ap (λ t. first_in_list (slots_of c.args.self.now.entries t)) c.transaction.view_is in
    c.from_residual.ensures ∙ none_given c.args.self.now.nodes.slots c.args.self.now.entries c.args.transaction e

pub unlink-requires-clause-has : goal.unlink-requires-clause-has
unlink-requires-clause-has g c =
    c.requires.held c.slot.result c.args.transaction (first_stands c.args.self.now.nodes.slots (ids_by (links_in c.args.self.now.nodes.slots) (g.E.QueueEnds.ends_of c.args.keeper.now)) c.args.self.now.entries c.slot.result c.args.transaction c.in_ok-id.id c.requires.tied.table
    (c.in_ok-id.ensures.given ∙ ap (λ t. first_in_list (slots_of c.args.self.now.entries t)) c.transaction.view_is) (c.slot.ensures ∙ ap (λ (v : Slab Node). slot_at v.slots c.in_ok-id.id) c.in_ok-id.ensures.nodes))

pub unlink-requires-clause-stands : goal.unlink-requires-clause-stands
unlink-requires-clause-stands g c =
    subst (λ (v : Slab Node). stands_in (requests v.slots (ids_by (links_in v.slots) (g.E.QueueEnds.ends_of c.args.keeper.now) c.slot.result)) c.args.transaction ≡ true) (sym c.in_ok-id.ensures.nodes)
    (first_stands c.args.self.now.nodes.slots (ids_by (links_in c.args.self.now.nodes.slots) (g.E.QueueEnds.ends_of c.args.keeper.now)) c.args.self.now.entries c.slot.result c.args.transaction c.in_ok-id.id c.requires.tied.table
    (c.in_ok-id.ensures.given ∙ ap (λ t. first_in_list (slots_of c.args.self.now.entries t)) c.transaction.view_is) (c.slot.ensures ∙ ap (λ (v : Slab Node). slot_at v.slots c.in_ok-id.id) c.in_ok-id.ensures.nodes))

pub unlink-requires-clause-own : goal.unlink-requires-clause-own
unlink-requires-clause-own g c =
    subst (λ (v : Slab Node). ((request_at v.slots c.in_ok-id.id).transaction == c.args.transaction) ≡ true) (sym c.in_ok-id.ensures.nodes)
    (first_owner c.args.self.now.nodes.slots (ids_by (links_in c.args.self.now.nodes.slots) (g.E.QueueEnds.ends_of c.args.keeper.now)) c.args.self.now.entries c.args.transaction c.in_ok-id.id c.requires.tied.table (c.in_ok-id.ensures.given ∙ ap (λ t. first_in_list (slots_of c.args.self.now.entries t)) c.transaction.view_is))

pub free-requires : goal.free-requires
free-requires g c = popped_unlisted c.args.self.now.nodes.slots (ids_by (links_in c.args.self.now.nodes.slots) (g.E.QueueEnds.ends_of c.args.keeper.now)) c.args.self.now.entries c.unlink.new.self.entries c.slot.result c.args.transaction c.in_ok-id.id (record {
  was = c.requires.tied.table;
  different = subst AreDifferent (found_slots c.args.self.now.nodes.slots c.args.self.now.entries c.args.transaction) c.requires.different;
  given = c.in_ok-id.ensures.given ∙ ap (λ t. first_in_list (slots_of c.args.self.now.entries t)) c.transaction.view_is;
  slot = sym (c.slot.ensures ∙ ap (λ (v : Slab Node). slot_at v.slots c.in_ok-id.id) c.in_ok-id.ensures.nodes);
  list = ap (λ entries. slots_of entries c.args.transaction) c.unlink.ensures.entries ∙ subst (λ t. slots_of c.pop.new.self.entries t ≡ rest_of_list (slots_of c.args.self.now.entries t)) c.transaction.view_is c.in_ok-id.ensures.rest;
  lists_stay = λ u n. ap (λ entries. slots_of entries u) c.unlink.ensures.entries ∙ c.in_ok-id.ensures.others u (λ e. n (e ∙ c.transaction.view_is));
})

-- what was taken out, as the ids of the queues are once it is unlinked
removed : (g : given.Over) (c : After-free g) → Removed c.args.self.now.nodes.slots c.free.new.self.nodes.slots (ids_by (links_in c.args.self.now.nodes.slots) (g.E.QueueEnds.ends_of c.args.keeper.now)) (ids_by (links_in c.unlink.new.self.nodes.slots) (g.E.QueueEnds.ends_of c.unlink.new.keeper))
    c.args.self.now.entries c.free.new.self.entries c.slot.result c.args.transaction c.in_ok-id.id
removed g c = record {
  popped = record {
    was = c.requires.tied.table;
    different = subst AreDifferent (found_slots c.args.self.now.nodes.slots c.args.self.now.entries c.args.transaction) c.requires.different;
    given = c.in_ok-id.ensures.given ∙ ap (λ t. first_in_list (slots_of c.args.self.now.entries t)) c.transaction.view_is;
    slot = sym (c.slot.ensures ∙ ap (λ (v : Slab Node). slot_at v.slots c.in_ok-id.id) c.in_ok-id.ensures.nodes);
    list = c.free.ensures.lists c.args.transaction
        ∙ (ap (λ entries. slots_of entries c.args.transaction) c.unlink.ensures.entries ∙ subst (λ t. slots_of c.pop.new.self.entries t ≡ rest_of_list (slots_of c.args.self.now.entries t)) c.transaction.view_is c.in_ok-id.ensures.rest);
    lists_stay = λ u n. c.free.ensures.lists u ∙ (ap (λ entries. slots_of entries u) c.unlink.ensures.entries ∙ c.in_ok-id.ensures.others u (λ e. n (e ∙ c.transaction.view_is)));
  };
  once = c.requires.once c.slot.result;
  unlinked = subst (λ (v : Slab Node). IsUnlinked v.slots (ids_by (links_in v.slots) (g.E.QueueEnds.ends_of c.args.keeper.now)) (ids_by (links_in c.unlink.new.self.nodes.slots) (g.E.QueueEnds.ends_of c.unlink.new.keeper)) c.slot.result c.args.transaction)
      c.in_ok-id.ensures.nodes c.unlink.ensures.unlinked;
  gone = c.free.ensures.gone;
  nodes_stay = λ other n. c.free.ensures.nodes other n ∙ (c.unlink.ensures.nodes other ∙ ap (λ (v : Slab Node). node_at v.slots other) c.in_ok-id.ensures.nodes);
  filled = c.free.ensures.filled;
}

-- and once its place is free
taken : (g : given.Over) (c : After-free g) → Removed c.args.self.now.nodes.slots c.free.new.self.nodes.slots (ids_by (links_in c.args.self.now.nodes.slots) (g.E.QueueEnds.ends_of c.args.keeper.now)) (ids_by (links_in c.free.new.self.nodes.slots) (g.E.QueueEnds.ends_of c.unlink.new.keeper))
    c.args.self.now.entries c.free.new.self.entries c.slot.result c.args.transaction c.in_ok-id.id
taken g c = freed_removed _ _ _ (links_in c.unlink.new.self.nodes.slots) (links_in c.free.new.self.nodes.slots) (g.E.QueueEnds.ends_of c.unlink.new.keeper) _ _ _ _ _ (removed g c) c.free.ensures.links c.unlink.ensures.lines

pub returns-clause-tied : goal.returns-clause-tied
returns-clause-tied g c = record {
  lines = (freed_lines _ _ _ (links_in c.unlink.new.self.nodes.slots) (links_in c.free.new.self.nodes.slots) (g.E.QueueEnds.ends_of c.unlink.new.keeper) _ _ _ _ _ (removed g c) c.free.ensures.links c.unlink.ensures.lines).kept;
  table = removed_table _ _ _ _ _ _ _ _ _ (taken g c);
}

pub returns-clause-given : goal.returns-clause-given
returns-clause-given g c = removed_given _ _ _ _ _ _ _ _ _ (taken g c)

pub returns-clause-taken : goal.returns-clause-taken
returns-clause-taken g c = record {
  queues = removed_queues _ _ _ _ _ _ _ _ _ (taken g c);
  list = removed_list _ _ _ _ _ _ _ _ _ (taken g c);
  others = removed_others _ _ _ _ _ _ _ _ _ (taken g c);
}

pub returns-clause-has : goal.returns-clause-has
returns-clause-has g c =
    (g.met.E.QueueEnds.beside_has _ _ c.slot.result c.unlink.ensures.beside).0
    (c.requires.held c.slot.result c.args.transaction (first_stands c.args.self.now.nodes.slots (ids_by (links_in c.args.self.now.nodes.slots) (g.E.QueueEnds.ends_of c.args.keeper.now)) c.args.self.now.entries c.slot.result c.args.transaction c.in_ok-id.id c.requires.tied.table
    (c.in_ok-id.ensures.given ∙ ap (λ t. first_in_list (slots_of c.args.self.now.entries t)) c.transaction.view_is) (c.slot.ensures ∙ ap (λ (v : Slab Node). slot_at v.slots c.in_ok-id.id) c.in_ok-id.ensures.nodes)))
