-- Other ends with the same locks: a keeper that gets a slot, or loses one that has no request.
use Rattle.std.proofs.Common.{◌≡◌, ℕ, inl, inr, List, [], ◌∷◌, length, Bool, true, false, ap, sym, ◌∙◌, subst, refl}
use Rattle.std.specs.List.{list_any}
use Rattle.pc_chain.specs.declared.chain.Chain.{Chain}
use Rattle.pc_chain.specs.Chains.{IsEmpty}
use Rattle.pc_model.specs.Locks.{request_in, is_ungranted}
use Rattle.pc_model.specs.Queues.{stands_in, IsSettled}
use Rattle.pc_locks.specs.Lines.{linked_ids, ids_of, ids_by, IsLine, IsQueue, AreLines}
use Rattle.pc_locks.specs.States.{State, queue_at, slots_of, is_listed, is_waiting_in_state, AreAlike}
use Rattle.pc_locks.specs.Tables.{Nodes, links_in, requests}
use Rattle.pc_locks.specs.Keepers.{KeptRequests, queues_of, lists_of, state_of, AreEnds, AreLocksSound, DifferWhereNone}
use Rattle.pc_locks.proofs.StateLaws.{linked_alike}
use Rattle.pc_locks.proofs.Growing.{table_alike}

no_ids : (nodes : Nodes) (xs : List ℕ) → requests nodes xs ≡ [] → xs ≡ []
no_ids nodes [] e = refl
no_ids nodes (x ∷ xs) e = absurd cc

-- a slot without a request has ends of an empty queue
pub empty_ends : (ends : ℕ → Chain ℕ) (kept : KeptRequests) (slot : ℕ) → AreEnds ends kept → queue_at (queues_of ends kept) slot ≡ [] → IsEmpty (ends slot)
empty_ends ends kept slot a e =
    let line = subst (IsLine (links_in kept.nodes.slots) (ends slot)) (no_ids kept.nodes.slots (ids_by (links_in kept.nodes.slots) ends slot) e) (a.tied.lines.line slot) in
    (line.first, line.last)

-- if no slot has a request, any slots may have ends
pub sound_none : (has : ℕ → Type 0) (ends : ℕ → Chain ℕ) (kept : KeptRequests) → AreEnds ends kept → ((slot : ℕ) → queue_at (queues_of ends kept) slot ≡ []) → AreLocksSound has ends kept
sound_none has ends kept a e = record {
  ends_are = a;
  held = λ slot t g. absurd (let f : false ≡ true = sym (ap (λ q. stands_in q t) (e slot)) ∙ g in cc);
}

module _ (ends new_ends : ℕ → Chain ℕ) (kept : KeptRequests) (d : DifferWhereNone ends new_ends kept) where
  ids_stay : (slot : ℕ) → ids_by (links_in kept.nodes.slots) new_ends slot ≡ ids_by (links_in kept.nodes.slots) ends slot
  ids_stay slot = elim (d slot) [
    | inl e ↦ ap (ids_of (links_in kept.nodes.slots)) e
    | inr p ↦ ap (linked_ids (links_in kept.nodes.slots) (length (links_in kept.nodes.slots))) p.1.0 ∙ sym (no_ids kept.nodes.slots (ids_by (links_in kept.nodes.slots) ends slot) p.0)
  ]

  lines_stay : AreLines (links_in kept.nodes.slots) ends → AreLines (links_in kept.nodes.slots) new_ends
  lines_stay a = record {
    line = λ k. elim (d k) [
      | inl e ↦ subst (IsQueue (links_in kept.nodes.slots)) (sym e) (a.line k)
      | inr p ↦ subst (IsLine (links_in kept.nodes.slots) (new_ends k)) (sym (ap (linked_ids (links_in kept.nodes.slots) (length (links_in kept.nodes.slots))) p.1.0)) (record { first = p.1.0; last = p.1.1; leads = tt; held = tt })
    ];
    apart = λ j k id e f. a.apart j k id (ap (λ xs. is_listed xs id) (sym (ids_stay j)) ∙ e) (ap (λ xs. is_listed xs id) (sym (ids_stay k)) ∙ f);
  }

  -- what is seen stays
  pub other_state : AreAlike (state_of new_ends kept) (state_of ends kept)
  other_state = record { queues = λ u. ap (requests kept.nodes.slots) (ids_stay u); lists = refl }

  pub other_ends : AreEnds ends kept → AreEnds new_ends kept
  other_ends a = record {
    tied = record { lines = lines_stay a.tied.lines; table = table_alike kept.nodes.slots (ids_by (links_in kept.nodes.slots) ends) (ids_by (links_in kept.nodes.slots) new_ends) kept.entries ids_stay a.tied.table };
    settled = record {
      settled = λ u. subst (λ xs. IsSettled (requests kept.nodes.slots xs)) (sym (ids_stay u)) (a.settled.settled u);
      linked = linked_alike (queues_of ends kept) (queues_of new_ends kept) (lists_of kept) (lists_of kept) other_state.queues (λ u. refl) a.settled.linked;
      filled = a.settled.filled;
    };
  }

  -- if each slot that has a request has its ends still
  pub other_sound : (has new_has : ℕ → Type 0) → ((slot t : ℕ) → stands_in (queue_at (queues_of ends kept) slot) t ≡ true → has slot → new_has slot) → AreLocksSound has ends kept → AreLocksSound new_has new_ends kept
  other_sound has new_has f a = record {
    ends_are = other_ends a.ends_are;
    held = λ slot t e. let h = ap (λ q. stands_in q t) (sym (other_state.queues slot)) ∙ e in f slot t h (a.held slot t h);
  }

any_same : (p q : ℕ → Bool) (xs : List ℕ) → ((x : ℕ) → p x ≡ q x) → list_any p xs ≡ list_any q xs
any_same p q [] f = refl
any_same p q (x ∷ xs) f = rw (f x, any_same p q xs f)

-- the view determines who waits
pub waits_alike : (a b : State) (t : ℕ) → AreAlike a b → is_waiting_in_state a t ≡ is_waiting_in_state b t
waits_alike a b t e =
    any_same (λ s. is_ungranted (request_in (queue_at a.queues s) t)) (λ s. is_ungranted (request_in (queue_at b.queues s) t)) (slots_of a.lists t) (λ s. ap (λ q. is_ungranted (request_in q t)) (e.queues s))
    ∙ ap (λ l. list_any (λ s. is_ungranted (request_in (queue_at b.queues s) t)) (slots_of l t)) e.lists
