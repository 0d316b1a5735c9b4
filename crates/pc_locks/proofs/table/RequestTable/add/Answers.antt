use Rattle.std.proofs.Common.{◌≡◌, ◌≢◌, ◌∙◌, ◌++◌, ◌∷◌, [], ℕ, slice_index_or, sym, ap, subst, is_some, true, false}
use Rattle.std.specs.Prelude.{None, option_map}
use Rattle.std.specs.Map.{lookup}
use Rattle.std.specs.BTreeMap.{is_at}
use Rattle.std.specs.Ordering.{nat_cmp}
use Rattle.slab.specs.Slab.{Slab}
use Rattle.pc_types.specs.declared.Request.{Request}
use Rattle.pc_locks.specs.declared.node.Node.{Node}
use Rattle.pc_locks.specs.Lines.{entry_ids, link_at}
use Rattle.pc_locks.specs.States.{slots_of, is_listed}
use Rattle.pc_locks.specs.Tables.{node_at, links_in, own_links_in, placed}
use Rattle.pc_locks.specs.Keepers.{KeptRequests}
use Rattle.pc_locks.proofs.Columns.{link_kept, link_of}
use Rattle.pc_locks.proofs.LineLemmas.{avoids_unlisted}
use Rattle.pc_locks.proofs.ListLemmas.{Grown, Changed, grown_node, free_unlisted, chain_line, changed_push, found_known}
use Rattle.pc_locks.proofs.table.RequestTable.add.Goals as goal
use Rattle.pc_locks.proofs.table.RequestTable.add.Goals.{After-put}

pub returns-in_err-at-clause-room : goal.returns-in_err-at-clause-room
returns-in_err-at-clause-room c = λ room. absurd (let z : false ≡ true = c.in_err-at.ensures.room
    (sym (found_known (own_links_in c.self.inside.nodes.slots) c.self.inside.ends c.request.inside.0.0.0) ∙ (ap (λ (v : KeptRequests). is_some (lookup (is_at (nat_cmp c.request.inside.0.0.0)) v.entries)) c.self.view_is
    ∙ (ap (λ (r : Request). is_some (lookup (is_at (nat_cmp r.transaction)) c.args.self.now.entries)) c.request.view_is ∙ room.known))) in cc)

-- the place was free, and all others stay
vacant : (c : After-put) → slice_index_or c.self.inside.nodes.slots c.insert_reserved-id.result None ≡ None
vacant c = ap (λ (s : Slab Node). slice_index_or s.slots c.insert_reserved-id.result None) (sym c.reserve.ensures.rest_kept) ∙ c.insert_reserved-id.ensures.was_vacant

others : (c : After-put) (other : ℕ) → other ≢ c.insert_reserved-id.result → slice_index_or c.insert_reserved-id.new.self.slots other None ≡ slice_index_or c.self.inside.nodes.slots other None
others c other n = c.insert_reserved-id.ensures.updates.others other n ∙ ap (λ (s : Slab Node). slice_index_or s.slots other None) c.reserve.ensures.rest_kept

more : (c : After-put) → Grown (own_links_in c.self.inside.nodes.slots) (own_links_in c.insert_reserved-id.new.self.slots) c.self.inside.ends c.keep.new.self c.request.inside.0.0.0
more c =
    grown_node c.self.inside.nodes.slots c.self.inside.ends c.insert_reserved-id.result c.self.invariant (vacant c) c.insert_reserved-id.new.self.slots c.keep.new.self c.request.inside.0.0.0 (others c) c.keep.ensures.ends c.keep.ensures.others

free : (c : After-put) (u : ℕ) → is_listed (slots_of (entry_ids (own_links_in c.self.inside.nodes.slots) c.self.inside.ends) u) c.insert_reserved-id.result ≡ false
free c = free_unlisted c.self.inside.nodes.slots c.self.inside.ends c.insert_reserved-id.result c.self.invariant (vacant c)

pub push_back-requires-clause-stands : goal.push_back-requires-clause-stands
push_back-requires-clause-stands c =
    let own = own_links_in c.insert_reserved-id.new.self.slots in
    let id = c.insert_reserved-id.result in
    let t = c.request.inside.0.0.0 in
    let none : slice_index_or c.self.inside.nodes.slots id None ≡ None = ap (λ (s : Slab Node). slice_index_or s.slots id None) (sym c.reserve.ensures.rest_kept) ∙ c.insert_reserved-id.ensures.was_vacant in
    let g = grown_node c.self.inside.nodes.slots c.self.inside.ends id c.self.invariant none c.insert_reserved-id.new.self.slots c.keep.new.self t
    (λ other n. c.insert_reserved-id.ensures.updates.others other n ∙ ap (λ (s : Slab Node). slice_index_or s.slots other None) c.reserve.ensures.rest_kept) c.keep.ensures.ends c.keep.ensures.others in
    let xs = slots_of (entry_ids own c.keep.new.self) t in (
      xs,
      chain_line own c.keep.new.self t c.get-ends.result g.lines (c.get-ends.ensures t c.in_ok-at.ensures.at),
      avoids_unlisted id xs (ap (λ ys. is_listed ys id) (g.slots t) ∙ free_unlisted c.self.inside.nodes.slots c.self.inside.ends id c.self.invariant none t),
    )

done : (c : After-put) → Changed (own_links_in c.self.inside.nodes.slots) (own_links_in c.push_back.new.links.slots) c.self.inside.ends c.put.new.self c.request.inside.0.0.0
    (slots_of (entry_ids (own_links_in c.self.inside.nodes.slots) c.self.inside.ends) c.request.inside.0.0.0 ++ c.insert_reserved-id.result ∷ [])
done c =
    changed_push (own_links_in c.self.inside.nodes.slots) (own_links_in c.insert_reserved-id.new.self.slots) (own_links_in c.push_back.new.links.slots) c.self.inside.ends c.keep.new.self c.put.new.self c.request.inside.0.0.0 c.insert_reserved-id.result
    c.get-ends.result c.push_back.new.self (more c) (c.get-ends.ensures c.request.inside.0.0.0 c.in_ok-at.ensures.at) (free c) c.push_back.ensures.added.list c.push_back.ensures.added.others c.put.ensures.this c.put.ensures.others

pub invariant_of-self-2 : goal.invariant_of-self-2
invariant_of-self-2 c = (done c).lists

pub returns-clause-added : goal.returns-clause-added
returns-clause-added c =
    let id = c.insert_reserved-id.result in
    let same = ap (λ (r : Request). r.transaction) c.request.view_is in record {
      was_free = ap (λ (v : KeptRequests). node_at v.nodes.slots id) (sym c.self.view_is) ∙ ap (option_map placed) (vacant c);
      here = c.push_back.ensures.beside.nodes id ∙ ap (option_map placed) c.insert_reserved-id.ensures.updates.changed;
      nodes = λ other n. c.push_back.ensures.beside.nodes other ∙ (ap (option_map placed) (others c other n) ∙ ap (λ (v : KeptRequests). node_at v.nodes.slots other) c.self.view_is);
      links = λ other n.
          ap (λ links. link_at links other) c.push_back.ensures.beside.queue
          ∙ (link_kept (λ (m : Node). m.next) c.self.inside.nodes.slots c.insert_reserved-id.new.self.slots other (others c other n) ∙ ap (λ (v : KeptRequests). link_at (links_in v.nodes.slots) other) c.self.view_is);
      link = ap (λ links. link_at links id) c.push_back.ensures.beside.queue ∙ link_of (λ (m : Node). m.next) c.insert_reserved-id.new.self.slots id _ c.insert_reserved-id.ensures.updates.changed;
      list = subst (λ t. slots_of (entry_ids (own_links_in c.push_back.new.links.slots) c.put.new.self) t ≡ slots_of c.args.self.now.entries t ++ id ∷ []) same
          ((done c).this ∙ ap (λ (v : KeptRequests). slots_of v.entries c.request.inside.0.0.0 ++ id ∷ []) c.self.view_is);
      lists = λ t n. (done c).others t (λ e. n (e ∙ same)) ∙ ap (λ (v : KeptRequests). slots_of v.entries t) c.self.view_is;
      filled = (done c).lists.filled;
    }
