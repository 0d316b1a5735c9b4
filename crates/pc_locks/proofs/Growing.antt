-- A request comes into the table, and goes out of it.
use Rattle.std.proofs.Common.{◌≡◌, ◌≢◌, ℕ, List, [], ◌∷◌, ◌++◌, false, true, sym, ◌∙◌, ap, subst}
use Rattle.std.proofs.lemmas.Bool.{false_from_ne_true}
use Rattle.pc_chain.specs.declared.chain.Chain.{Chain}
use Rattle.pc_locks.specs.Lines.{Links, link_at, ids_by, AreLines, LineBecomes}
use Rattle.pc_locks.specs.States.{slots_of, is_listed, AreFilled}
use Rattle.pc_locks.specs.Changes.{IsRequestAdded}
use Rattle.pc_locks.specs.Tables.{Nodes, Placed, node_at, links_in, IsTable}
use Rattle.pc_locks.specs.Keepers.{KeptRequests, AreTied}
use Rattle.pc_locks.proofs.LineLemmas.{LinesStay, lines_stay}
use Rattle.pc_locks.proofs.TableLemmas.{Added, vacant_queue}
use Rattle.pc_locks.proofs.RemovalLemmas.{Removed, queue_left}

pub table_alike : (nodes : Nodes) (ids new_ids : ℕ → List ℕ) (entries : List (ℕ × List ℕ)) → ((u : ℕ) → new_ids u ≡ ids u) → IsTable nodes ids entries → IsTable nodes new_ids entries
table_alike nodes ids new_ids entries e a = record {
  in_queue = λ u id l. a.in_queue u id (ap (λ xs. is_listed xs id) (sym (e u)) ∙ l);
  in_list = λ t id l. let p = a.in_list t id l in (p.0, p.1, ap (λ xs. is_listed xs id) (e p.0) ∙ p.2);
  with_both = λ id u t p. let w = a.with_both id u t p in (ap (λ xs. is_listed xs id) (e u) ∙ w.0, w.1);
  filled = a.filled;
}

-- a request was added, and then its id is linked to the end of its slot's queue
module _ (old added : KeptRequests) (request : Placed) (id : ℕ) (a : IsRequestAdded old added request id) (ends : ℕ → Chain ℕ) (t : AreTied ends old) where
  unqueued : (u : ℕ) → is_listed (ids_by (links_in old.nodes.slots) ends u) id ≡ false
  unqueued u = false_from_ne_true (is_listed (ids_by (links_in old.nodes.slots) ends u) id) (λ e. vacant_queue old.nodes.slots (ids_by (links_in old.nodes.slots) ends) old.entries id t.table a.was_free u e)

  pub added_lines : LinesStay (links_in old.nodes.slots) (links_in added.nodes.slots) ends
  added_lines = lines_stay (links_in old.nodes.slots) (links_in added.nodes.slots) ends
      (λ u x l. a.links x (λ e. let z : false ≡ true = sym (unqueued u) ∙ (ap (is_listed (ids_by (links_in old.nodes.slots) ends u)) (sym e) ∙ l) in cc)) t.lines

  pub added_fresh : (u : ℕ) → is_listed (ids_by (links_in added.nodes.slots) ends u) id ≡ false
  added_fresh u = ap (λ xs. is_listed xs id) (added_lines.ids u) ∙ unqueued u

  pub added_linked : (new : KeptRequests) (new_ends : ℕ → Chain ℕ) → LineBecomes (links_in added.nodes.slots) (links_in new.nodes.slots) ends new_ends request.slot (ids_by (links_in added.nodes.slots) ends request.slot ++ id ∷ []) →
      ((other : ℕ) → node_at new.nodes.slots other ≡ node_at added.nodes.slots other) → new.entries ≡ added.entries →
      Added old.nodes.slots new.nodes.slots (ids_by (links_in old.nodes.slots) ends) (ids_by (links_in new.nodes.slots) new_ends) old.entries new.entries request.slot id request.request
  added_linked new new_ends b n e = record {
    was = t.table;
    queue = record {
      this = b.this ∙ ap (λ xs. xs ++ id ∷ []) (added_lines.ids request.slot);
      others = λ u m. b.others u m ∙ added_lines.ids u;
    };
    vacant = a.was_free;
    here = n id ∙ a.here;
    nodes_stay = λ other m. n other ∙ a.nodes other m;
    list = ap (λ entries. slots_of entries request.request.transaction) e ∙ a.list;
    lists_stay = λ u m. ap (λ entries. slots_of entries u) e ∙ a.lists u m;
    filled = subst AreFilled (sym e) a.filled;
  }

-- a request was unlinked from its slot's queue, and then its place was freed
module _ (nodes new_nodes : Nodes) (ids : ℕ → List ℕ) (links new_links : Links) (new_ends : ℕ → Chain ℕ) (entries new_entries : List (ℕ × List ℕ)) (s t id : ℕ)
    (a : Removed nodes new_nodes ids (ids_by links new_ends) entries new_entries s t id) (stay : (other : ℕ) → other ≢ id → link_at new_links other ≡ link_at links other) (lines : AreLines links new_ends) where
  pub freed_lines : LinesStay links new_links new_ends
  freed_lines = lines_stay links new_links new_ends (λ u x l. stay x (queue_left nodes new_nodes ids (ids_by links new_ends) entries new_entries s t id a u x l).0) lines

  pub freed_removed : Removed nodes new_nodes ids (ids_by new_links new_ends) entries new_entries s t id
  freed_removed = record {
    popped = a.popped;
    once = a.once;
    unlinked = record {
      before = a.unlinked.before;
      id = a.unlinked.id;
      behind = a.unlinked.behind;
      split = a.unlinked.split;
      none_before = a.unlinked.none_before;
      passed = a.unlinked.passed;
      new = record {
        this = freed_lines.ids s ∙ a.unlinked.new.this;
        others = λ u n. freed_lines.ids u ∙ a.unlinked.new.others u n;
      };
    };
    gone = a.gone;
    nodes_stay = a.nodes_stay;
    filled = a.filled;
  }
