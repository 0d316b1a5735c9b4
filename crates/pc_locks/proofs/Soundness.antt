-- Locks and a keeper of ends stay sound together.
use Rattle.std.proofs.Common.{◌≡◌, ◌≢◌, ℕ, ◌==◌, inl, inr, List, [], length, Option, Some, true, false, not, sym, ◌∙◌, ap, subst}
use Rattle.std.specs.Prelude.{Result, Ok, Err, IfOk, OnErr, filter}
use Rattle.pc_types.specs.declared.Mode.{Mode}
use Rattle.pc_types.specs.declared.Outcome.{Outcome}
use Rattle.pc_chain.specs.declared.chain.Chain.{Chain}
use Rattle.pc_chain.specs.Chains.{IsEmpty}
use Rattle.pc_model.specs.Locks.{Queue, outcome_of_new, outcome_beside, queue_after, granted_behind, queue_without, request_in, is_ungranted}
use Rattle.pc_model.specs.Queues.{stands_in}
use Rattle.pc_locks.specs.Lines.{Links, linked_ids, ids_by, AreLines}
use Rattle.pc_locks.specs.States.{Queues, State, queue_at, slots_of, slots_after, first_in_list, rest_of_list, is_listed, is_waiting_in_state, SetsAt, AreAlike, AreAmong, IsTakenOut, IsReleased, IsRequestAnswered}
use Rattle.pc_locks.specs.Tables.{Nodes, links_in, node_at, request_at, queue_place_of, requests, node_queues, lists_in, IsOwn}
use Rattle.pc_locks.specs.Keepers.{KeptRequests, queues_of, lists_of, state_of, AreTied, AreEnds, AreLocksSound}
use Rattle.pc_locks.proofs.SlotLaws.{sets_cases}
use Rattle.pc_locks.proofs.StateLaws.{ready_at, list_again}
use Rattle.pc_locks.proofs.LineLemmas.{lines_none}
use Rattle.pc_locks.proofs.LocksLemmas.{Keeps, Answered, Released, answered_again, released, keeps_new, keeps_first, ends_keep, keep_ends}

ids_none : (links : Links) (ends : ℕ → Chain ℕ) → ((u : ℕ) → IsEmpty (ends u)) → (u : ℕ) → ids_by links ends u ≡ []
ids_none links ends e u = ap (linked_ids links (length links)) (e u).0

-- with any ends of empty queues
pub ends_new : (ends : ℕ → Chain ℕ) (kept : KeptRequests) → kept.nodes.slots ≡ [] → kept.entries ≡ [] → ((u : ℕ) → IsEmpty (ends u)) → AreEnds ends kept
ends_new ends kept g f e =
    let ids = ids_by (links_in kept.nodes.slots) ends in
    keep_ends ends kept (lines_none (links_in kept.nodes.slots) ends (λ u. (e u).0) (λ u. (e u).1))
    (subst (λ ns. Keeps ns ids kept.entries) (sym g) (subst (λ es. Keeps [] ids es) (sym f) (keeps_new ids (ids_none (links_in kept.nodes.slots) ends e))))

pub queues_new : (ends : ℕ → Chain ℕ) (kept : KeptRequests) → ((u : ℕ) → IsEmpty (ends u)) → (u : ℕ) → queue_at (queues_of ends kept) u ≡ []
queues_new ends kept e u = ap (requests kept.nodes.slots) (ids_none (links_in kept.nodes.slots) ends e u)

among_set : (has new_has : ℕ → Type 0) (queues new_queues : Queues) (s : ℕ) (q : Queue) → SetsAt queues new_queues s q → new_has s → ((u : ℕ) → has u → new_has u) → AreAmong has queues → AreAmong new_has new_queues
among_set has new_has queues new_queues s q h n f k = λ u t e. elim (sets_cases queues new_queues s q h u) [
  | inl c ↦ subst new_has (sym c.0) n
  | inr c ↦ f u (k u t (ap (λ x. stands_in x t) (sym c.1) ∙ e))
]

among_result : {A E : Type 0} (result : Result A E) (new : A → Queue) (has new_has : ℕ → Type 0) (a b : State) (s : ℕ) → IfOk result (λ x. SetsAt a.queues b.queues s (new x)) → OnErr result (AreAlike b a) → new_has s → ((u : ℕ) → has u → new_has u) →
    AreAmong has a.queues → AreAmong new_has b.queues
among_result (Ok x) new has new_has a b s h e n f k = among_set has new_has a.queues b.queues s (new x) h n f k
among_result (Err x) new has new_has a b s h e n f k = λ u t g. f u (k u t (ap (λ q. stands_in q t) (sym (e.queues u)) ∙ g))

-- the transaction waits nowhere
pub ready_of : (ends : ℕ → Chain ℕ) (kept : KeptRequests) (t : ℕ) → AreEnds ends kept → is_waiting_in_state (state_of ends kept) t ≡ false → (u : ℕ) → is_ungranted (request_in (queue_at (queues_of ends kept) u) t) ≡ false
ready_of ends kept t a e = ready_at (queues_of ends kept) (lists_of kept) t a.settled.linked e

-- the own request answered again, in a queue with these ids
pub answered_in : (ends : ℕ → Chain ℕ) (kept : KeptRequests) (new_nodes : Nodes) (xs : List ℕ) (s t : ℕ) (previous : Option ℕ) (id : ℕ) (mode : Mode) (o : Outcome) → AreEnds ends kept → xs ≡ ids_by (links_in kept.nodes.slots) ends s →
    is_waiting_in_state (state_of ends kept) t ≡ false → IsOwn kept.nodes.slots xs t previous id →
    o ≡ outcome_beside (requests kept.nodes.slots xs) t mode (Some (request_at kept.nodes.slots id)) → requests new_nodes xs ≡ queue_after (requests kept.nodes.slots xs) t mode o →
    ((x : ℕ) → queue_place_of (node_at new_nodes x) ≡ queue_place_of (node_at kept.nodes.slots x)) → ((x : ℕ) → is_listed xs x ≡ false → node_at new_nodes x ≡ node_at kept.nodes.slots x) →
    Answered kept.nodes.slots new_nodes (ids_by (links_in kept.nodes.slots) ends) kept.entries s t mode o
answered_in ends kept new_nodes xs s t previous id mode o a e w own told queue places others =
    answered_again kept.nodes.slots new_nodes (ids_by (links_in kept.nodes.slots) ends) kept.entries s t previous id mode o (ends_keep ends kept a) (ready_of ends kept t a w s)
    (subst (λ ys. IsOwn kept.nodes.slots ys t previous id) e own)
    (subst (λ ys. o ≡ outcome_beside (requests kept.nodes.slots ys) t mode (Some (request_at kept.nodes.slots id))) e told)
    (subst (λ ys. requests new_nodes ys ≡ queue_after (requests kept.nodes.slots ys) t mode o) e queue)
    places (subst (λ ys. (x : ℕ) → is_listed ys x ≡ false → node_at new_nodes x ≡ node_at kept.nodes.slots x) e others)

-- what is kept then, with the links and the lists that were
module _ (ends : ℕ → Chain ℕ) (kept new : KeptRequests) (s t : ℕ) (mode : Mode) (o : Outcome) (d : Answered kept.nodes.slots new.nodes.slots (ids_by (links_in kept.nodes.slots) ends) kept.entries s t mode o)
    (links : links_in new.nodes.slots ≡ links_in kept.nodes.slots) (entries : new.entries ≡ kept.entries) where
  answered_queues : SetsAt (queues_of ends kept) (queues_of ends new) s (queue_after (queue_at (queues_of ends kept) s) t mode o)
  answered_queues = subst (λ l. SetsAt (queues_of ends kept) (node_queues new.nodes.slots (ids_by l ends)) s (queue_after (queue_at (queues_of ends kept) s) t mode o)) (sym links) d.queues

  answered_lists : lists_of new ≡ lists_of kept
  answered_lists = ap (lists_in new.nodes.slots) entries ∙ d.lists

  pub answered_all : stands_in (queue_at (queues_of ends kept) s) t ≡ true → IsRequestAnswered (state_of ends kept) (state_of ends new) t s mode o
  answered_all stood = record {
    told = d.told;
    turned = record {
      queues = answered_queues;
      list = ap (λ lists. slots_of lists t) answered_lists ∙ list_again (slots_of (lists_of kept) t) s (stands_in (queue_at (queues_of ends kept) s) t) o d.kind stood;
      others = λ u n. ap (λ lists. slots_of lists u) answered_lists;
    };
  }

  pub sound_answered : (has : ℕ → Type 0) → AreLocksSound has ends kept → has s → AreLocksSound has ends new
  sound_answered has a n = record {
    ends_are = keep_ends ends new (subst (λ l. AreLines l ends) (sym links) a.ends_are.tied.lines)
        (subst (λ l. Keeps new.nodes.slots (ids_by l ends) new.entries) (sym links) (subst (Keeps new.nodes.slots (ids_by (links_in kept.nodes.slots) ends)) (sym entries) d.keeps));
    held = among_set has has (queues_of ends kept) (queues_of ends new) s (queue_after (queue_at (queues_of ends kept) s) t mode o) answered_queues n (λ u h. h) a.held;
  }

-- the first request answered
pub sound_first : {A E : Type 0} (result : Result A E) (told : A → Outcome) (has new_has : ℕ → Type 0) (ends new_ends : ℕ → Chain ℕ) (kept new_kept : KeptRequests) (s t : ℕ) (mode : Mode) → AreLocksSound has ends kept → new_has s → ((u : ℕ) → has u → new_has u) →
    stands_in (queue_at (queues_of ends kept) s) t ≡ false → is_waiting_in_state (state_of ends kept) t ≡ false → AreTied new_ends new_kept →
    IfOk result (λ a. told a ≡ outcome_of_new (queue_at (queues_of ends kept) s) t mode) →
    IfOk result (λ a. SetsAt (queues_of ends kept) (queues_of new_ends new_kept) s (queue_after (queue_at (queues_of ends kept) s) t mode (told a))) →
    IfOk result (λ a. slots_of (lists_of new_kept) t ≡ slots_after (slots_of (lists_of kept) t) s false (told a)) →
    ((u : ℕ) → u ≢ t → slots_of (lists_of new_kept) u ≡ slots_of (lists_of kept) u) →
    OnErr result (AreAlike (state_of new_ends new_kept) (state_of ends kept)) → AreLocksSound new_has new_ends new_kept
sound_first result told has new_has ends new_ends kept new_kept s t mode a n f fresh w tied o q l others err = record {
  ends_are = keep_ends new_ends new_kept tied.lines
      (keeps_first result told kept.nodes.slots new_kept.nodes.slots (ids_by (links_in kept.nodes.slots) ends) (ids_by (links_in new_kept.nodes.slots) new_ends) kept.entries new_kept.entries s t mode
      (ends_keep ends kept a.ends_are) fresh (ready_of ends kept t a.ends_are w) tied.table o q l others err);
  held = among_result result (λ x. queue_after (queue_at (queues_of ends kept) s) t mode (told x)) has new_has (state_of ends kept) (state_of new_ends new_kept) s q err n f a.held;
}

-- a request taken out, and others granted, in a queue with these ids
pub released_in : (ends new_ends : ℕ → Chain ℕ) (kept taken : KeptRequests) (new_nodes : Nodes) (xs : List ℕ) (s t : ℕ) → AreEnds ends kept → AreTied new_ends taken → xs ≡ ids_by (links_in taken.nodes.slots) new_ends s →
    Some s ≡ first_in_list (slots_of (lists_of kept) t) → slots_of (lists_of taken) t ≡ rest_of_list (slots_of (lists_of kept) t) → ((u : ℕ) → u ≢ t → slots_of (lists_of taken) u ≡ slots_of (lists_of kept) u) →
    SetsAt (queues_of ends kept) (queues_of new_ends taken) s (filter (λ r. not (r.transaction == t)) (queue_at (queues_of ends kept) s)) →
    requests new_nodes xs ≡ granted_behind [] (requests taken.nodes.slots xs) →
    ((x : ℕ) → queue_place_of (node_at new_nodes x) ≡ queue_place_of (node_at taken.nodes.slots x)) → ((x : ℕ) → is_listed xs x ≡ false → node_at new_nodes x ≡ node_at taken.nodes.slots x) →
    Released kept.nodes.slots taken.nodes.slots new_nodes (ids_by (links_in kept.nodes.slots) ends) (ids_by (links_in taken.nodes.slots) new_ends) kept.entries taken.entries s t
released_in ends new_ends kept taken new_nodes xs s t a tied e given list lists queues granted places others =
    released kept.nodes.slots taken.nodes.slots new_nodes (ids_by (links_in kept.nodes.slots) ends) (ids_by (links_in taken.nodes.slots) new_ends) kept.entries taken.entries s t (ends_keep ends kept a) tied.table given list lists queues
    (subst (λ ys. requests new_nodes ys ≡ granted_behind [] (requests taken.nodes.slots ys)) e granted)
    places (subst (λ ys. (x : ℕ) → is_listed ys x ≡ false → node_at new_nodes x ≡ node_at taken.nodes.slots x) e others)

-- what is kept then, with the links and the lists that were left
module _ (ends new_ends : ℕ → Chain ℕ) (kept taken new : KeptRequests) (s t : ℕ)
    (r : Released kept.nodes.slots taken.nodes.slots new.nodes.slots (ids_by (links_in kept.nodes.slots) ends) (ids_by (links_in taken.nodes.slots) new_ends) kept.entries taken.entries s t)
    (links : links_in new.nodes.slots ≡ links_in taken.nodes.slots) (entries : new.entries ≡ taken.entries) where
  released_queues : SetsAt (queues_of ends kept) (queues_of new_ends new) s (queue_without (queue_at (queues_of ends kept) s) t)
  released_queues = subst (λ l. SetsAt (queues_of ends kept) (node_queues new.nodes.slots (ids_by l new_ends)) s (queue_without (queue_at (queues_of ends kept) s) t)) (sym links) r.queues

  released_lists : lists_of new ≡ lists_of taken
  released_lists = ap (lists_in new.nodes.slots) entries ∙ r.lists

  pub released_all : IsTakenOut (state_of ends kept) (state_of new_ends taken) t s → IsReleased (state_of ends kept) (state_of new_ends new) t s
  released_all a = record {
    queues = released_queues;
    list = ap (λ lists. slots_of lists t) released_lists ∙ a.list;
    others = λ u n. ap (λ lists. slots_of lists u) released_lists ∙ a.others u n;
  }

  pub sound_released : (has new_has : ℕ → Type 0) → AreLocksSound has ends kept → AreTied new_ends taken → new_has s → ((u : ℕ) → has u → new_has u) → AreLocksSound new_has new_ends new
  sound_released has new_has a tied n f = record {
    ends_are = keep_ends new_ends new (subst (λ l. AreLines l new_ends) (sym links) tied.lines)
        (subst (λ l. Keeps new.nodes.slots (ids_by l new_ends) new.entries) (sym links) (subst (Keeps new.nodes.slots (ids_by (links_in taken.nodes.slots) new_ends)) (sym entries) r.keeps));
    held = among_set has new_has (queues_of ends kept) (queues_of new_ends new) s (queue_without (queue_at (queues_of ends kept) s) t) released_queues n f a.held;
  }
