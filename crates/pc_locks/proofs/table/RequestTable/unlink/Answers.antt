use Rattle.std.proofs.Common.{◌≡◌, [], Some, refl, sym, ◌∙◌, ap}
use Rattle.pc_locks.specs.Lines.{ids_by, ids_of}
use Rattle.pc_locks.specs.States.{first_in_list, rest_of_list}
use Rattle.pc_locks.specs.Tables.{links_in}
use Rattle.pc_locks.proofs.RemovalLemmas.{split_first, same_some}
use Rattle.pc_locks.proofs.table.RequestTable.unlink.Goals as goal

pub returns-then-eq-clause-unlinked : goal.returns-then-eq-clause-unlinked
returns-then-eq-clause-unlinked g c =
    let links = links_in c.args.self.now.nodes.slots in
    let ids = ids_by links (g.E.QueueEnds.ends_of c.args.keeper.now) c.args.slot in
    let is : Some c.args.id ≡ first_in_list ids = same_some c.first_id.result c.args.id (sym c.eq.ensures ∙ c.if-eq.true) ∙ (c.first_id.ensures ∙ ap (λ x. first_in_list (ids_of links x)) c.ends-queue.ensures) in record {
      before = [];
      id = c.args.id;
      behind = rest_of_list ids;
      split = split_first ids c.args.id is;
      none_before = refl;
      passed = c.requires.own;
      new = record { this = c.unlink_first.ensures.unlinked.this; others = c.unlink_first.ensures.unlinked.others };
    }
