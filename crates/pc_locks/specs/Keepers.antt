-- The invariants of locks, their view with the ends of the slots' queues, and the invariants of both together.
use Rattle.std.specs.Prelude.{◌≡◌, ◌⊎◌, ℕ, List, []}
use Rattle.slab.specs.Slab.{Slab}
use Rattle.pc_chain.specs.declared.chain.Chain.{Chain}
use Rattle.pc_chain.specs.Chains.{IsEmpty}
use Rattle.pc_model.specs.Locks.{Queue}
use Rattle.pc_locks.specs.declared.node.Node.{Node}
use Rattle.pc_locks.specs.Lines.{Links, ids_of, ids_by, AreLines}
use Rattle.pc_locks.specs.States.{SlotLists, Queues, State, queue_at, AreAmong, AreSettled}
use Rattle.pc_locks.specs.Tables.{links_in, requests, node_queues, lists_in, IsTable}

-- the requests in their slab, and the ids of each transaction
pub record KeptRequests : Type 0 where
  pub nodes : Slab Node
  pub entries : List (ℕ × List ℕ)

-- the link of each id to the next one of its slot
abbrev pub links_of : KeptRequests → Links
links_of kept = links_in kept.nodes.slots

-- the ids to which the links lead along a chain, and their requests
abbrev pub ids_along : KeptRequests → Chain ℕ → List ℕ
ids_along kept chain = ids_of (links_of kept) chain

abbrev pub queue_along : KeptRequests → Chain ℕ → Queue
queue_along kept chain = requests kept.nodes.slots (ids_along kept chain)

-- the queue of each slot: the requests that the links lead to from its ends
abbrev pub queues_of : (ℕ → Chain ℕ) → KeptRequests → Queues
queues_of ends kept = node_queues kept.nodes.slots (ids_by (links_of kept) ends)

-- the slots of each transaction
abbrev pub lists_of : KeptRequests → SlotLists
lists_of kept = lists_in kept.nodes.slots kept.entries

-- what the locks are seen as
abbrev pub state_of : (ℕ → Chain ℕ) → KeptRequests → State
state_of ends kept = record { queues = queues_of ends kept; lists = lists_of kept }

-- from these ends the links lead along chains, and these, the requests and the transactions' ids say the same
pub record AreTied (ends : ℕ → Chain ℕ) (kept : KeptRequests) : Type 0 where
  pub lines : AreLines (links_of kept) ends
  pub table : IsTable kept.nodes.slots (ids_by (links_of kept) ends) kept.entries

-- these are the ends of the queues of what is kept, and what is seen is settled
pub record AreEnds (ends : ℕ → Chain ℕ) (kept : KeptRequests) : Type 0 where
  pub tied : AreTied ends kept
  pub settled : AreSettled (state_of ends kept)

-- what locks and a keeper of ends keep together; a slot of which a transaction has a request has ends
pub record AreLocksSound (has : ℕ → Type 0) (ends : ℕ → Chain ℕ) (kept : KeptRequests) : Type 0 where
  pub ends_are : AreEnds ends kept
  pub held : AreAmong has (queues_of ends kept)

-- each slot has the same ends still, or has no request, and then those of an empty queue
abbrev pub DifferWhereNone : (ℕ → Chain ℕ) → (ℕ → Chain ℕ) → KeptRequests → Type 0
DifferWhereNone ends new_ends kept = (slot : ℕ) → (new_ends slot ≡ ends slot) ⊎ ((queue_at (queues_of ends kept) slot ≡ []) × IsEmpty (new_ends slot))
