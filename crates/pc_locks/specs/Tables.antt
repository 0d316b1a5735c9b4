-- Requests in a slab, named by ids, and the ids of each slot and of each transaction.
use Rattle.std.specs.Prelude.{◌≡◌, is_some, ℕ, ◌==◌, ◌&&◌, not, nat_lt, Bool, true, false, List, ◌∷◌, ◌++◌, map, Option, Some, None, unwrap_or, option_map, slice_index_or}
use Rattle.std.specs.List.{list_any}
use Rattle.pc_locks.specs.Lines.{Links}
use Rattle.pc_types.specs.declared.Mode.TheVariants.{Shared}
use Rattle.pc_types.specs.declared.Request.{Request}
use Rattle.pc_model.specs.Locks.{Queue, are_compatible}
use Rattle.pc_model.specs.Queues.{stands_in}
use Rattle.pc_locks.specs.declared.node.Node.{Node}
use Rattle.pc_locks.specs.declared.node.Test.{Test}
use Rattle.pc_locks.specs.declared.node.Test.TheVariants as test
use Rattle.pc_locks.specs.States.{SlotLists, Queues, SetsAt, AreFilled, slots_of, is_listed, last_in_list}

-- what a test asks of a request
abbrev pub passes : Test → Request → Bool
passes (test.Of t) r = r.transaction == t
passes (test.Conflicts own) r = not (are_compatible own r)
passes (test.NotYounger t) r = not (nat_lt t r.transaction)
passes (test.HeldBeside t) r = r.granted && not (r.transaction == t)

-- the requests by id
abbrev pub Nodes : Type 0
Nodes = List (Option Node)

-- a request and its slot
pub record Placed : Type 0 where
  pub request : Request
  pub slot : ℕ

-- the request of a node and its slot, without its links
abbrev pub placed : Node → Placed
placed n = record { request = n.request; slot = n.slot }

-- the request of an id and its slot, if it has one
abbrev pub node_at : Nodes → ℕ → Option Placed
node_at nodes id = option_map placed (slice_index_or nodes id None)

-- the link of each id to the next one of its slot
abbrev pub links_in : Nodes → Links
links_in nodes = map (option_map (λ (n : Node). n.next)) nodes

-- the link of each id to the next one of its transaction
abbrev pub own_links_in : Nodes → Links
own_links_in nodes = map (option_map (λ (n : Node). n.next_own)) nodes

-- each id has its request and its link to the next one of its transaction still
pub record KeepOwnLinks (old new : Nodes) : Type 0 where
  pub nodes : (id : ℕ) → node_at new id ≡ node_at old id
  pub own : own_links_in new ≡ own_links_in old

-- each id has its request and its link to the next one of its slot still
pub record KeepQueueLinks (old new : Nodes) : Type 0 where
  pub nodes : (id : ℕ) → node_at new id ≡ node_at old id
  pub queue : links_in new ≡ links_in old

-- the request of a node
abbrev pub node_request : Option Placed → Request
node_request node = unwrap_or (option_map (λ (n : Placed). n.request) node) (record { transaction = 0; mode = Shared; granted = false })

-- the slot of a node
abbrev pub node_slot : Option Placed → ℕ
node_slot node = unwrap_or (option_map (λ (n : Placed). n.slot) node) 0

-- the request of an id
abbrev pub request_at : Nodes → ℕ → Request
request_at nodes id = node_request (node_at nodes id)

-- the slot of an id
abbrev pub slot_at : Nodes → ℕ → ℕ
slot_at nodes id = node_slot (node_at nodes id)

-- the slot and the transaction of a node
abbrev pub queue_place_of : Option Placed → Option (ℕ × ℕ)
queue_place_of node = option_map (λ (n : Placed). (n.slot, n.request.transaction)) node

-- the requests of these ids
abbrev pub requests : Nodes → List ℕ → Queue
requests nodes ids = map (request_at nodes) ids

-- the slots of these ids
abbrev pub slots : Nodes → List ℕ → List ℕ
slots nodes ids = map (slot_at nodes) ids

-- the requests of each slot
abbrev pub node_queues : Nodes → (ℕ → List ℕ) → Queues
node_queues nodes ids slot = requests nodes (ids slot)

-- the slots of each transaction
abbrev pub lists_in : Nodes → List (ℕ × List ℕ) → SlotLists
lists_in nodes entries = map (λ e. (e.0, slots nodes e.1)) entries

-- each id of a slot has a request of it, each id of a transaction has a request of it, which is with its slot, and each
-- request is with both; no transaction without an id has an entry
pub record IsTable (nodes : Nodes) (ids : ℕ → List ℕ) (entries : List (ℕ × List ℕ)) : Type 0 where
  pub in_queue : (slot id : ℕ) → is_listed (ids slot) id ≡ true → (t : ℕ) × (queue_place_of (node_at nodes id) ≡ Some (slot, t))
  pub in_list : (t id : ℕ) → is_listed (slots_of entries t) id ≡ true → (slot : ℕ) × (queue_place_of (node_at nodes id) ≡ Some (slot, t)) × (is_listed (ids slot) id ≡ true)
  pub with_both : (id slot t : ℕ) → queue_place_of (node_at nodes id) ≡ Some (slot, t) → (is_listed (ids slot) id ≡ true) × (is_listed (slots_of entries t) id ≡ true)
  pub filled : AreFilled entries

-- the first id of the list whose request passes the test, and the one before it
pub record IsIdFound (nodes : Nodes) (ids : List ℕ) (asked : Test) (previous : Option ℕ) (id : ℕ) : Type 0 where
  pub before : List ℕ
  pub behind : List ℕ
  pub split : ids ≡ before ++ id ∷ behind
  pub previous_is : previous ≡ last_in_list before
  pub none_before : list_any (passes asked) (requests nodes before) ≡ false
  pub passed : passes asked (request_at nodes id) ≡ true

-- the first of the list whose request is the transaction's
abbrev pub IsOwn : Nodes → List ℕ → ℕ → Option ℕ → ℕ → Type 0
IsOwn nodes ids t previous id = IsIdFound nodes ids (test.Of t) previous id

-- of the slot's ids the first whose request is the transaction's was taken out
pub record IsUnlinked (nodes : Nodes) (ids new_ids : ℕ → List ℕ) (slot t : ℕ) : Type 0 where
  pub before : List ℕ
  pub id : ℕ
  pub behind : List ℕ
  pub split : ids slot ≡ before ++ id ∷ behind
  pub none_before : stands_in (requests nodes before) t ≡ false
  pub passed : ((request_at nodes id).transaction == t) ≡ true
  pub new : SetsAt ids new_ids slot (before ++ behind)

-- each id has its slot and its transaction still
abbrev pub KeepPlaces : Nodes → Nodes → Type 0
KeepPlaces nodes new_nodes = (id : ℕ) → queue_place_of (node_at new_nodes id) ≡ queue_place_of (node_at nodes id)

-- each id outside of the list has its request still
abbrev pub KeepOutside : List ℕ → Nodes → Nodes → Type 0
KeepOutside ids nodes new_nodes = (id : ℕ) → is_listed ids id ≡ false → node_at new_nodes id ≡ node_at nodes id

-- each of the ids has a request
abbrev pub HaveRequests : Nodes → List ℕ → Type 0
HaveRequests nodes ids = (id : ℕ) → is_listed ids id ≡ true → is_some (queue_place_of (node_at nodes id)) ≡ true
