-- The invariants of locks when a request comes, or goes.
use Rattle.std.specs.Prelude.{◌≡◌, ◌≢◌, ℕ, true, [], ◌∷◌, ◌++◌, Some, None, is_some}
use Rattle.std.specs.Map.{lookup}
use Rattle.std.specs.BTreeMap.{is_at}
use Rattle.std.specs.Ordering.{nat_cmp}
use Rattle.slab.specs.Slab.{HasRoomFor}
use Rattle.pc_locks.specs.Lines.{link_at}
use Rattle.pc_locks.specs.States.{slots_of, AreFilled}
use Rattle.pc_locks.specs.Tables.{Placed, node_at}
use Rattle.pc_locks.specs.Keepers.{KeptRequests, links_of}

-- one more request of the transaction fits without memory: the slab has room, and the transaction has an entry
pub record HasRoomForRequest (kept : KeptRequests) (t : ℕ) : Type 0 where
  pub nodes_fit : HasRoomFor kept.nodes 1
  pub known : is_some (lookup (is_at (nat_cmp t)) kept.entries) ≡ true

-- a request came under an id that was free, without a link, and at the end of its transaction's ids
pub record IsRequestAdded (old new : KeptRequests) (request : Placed) (id : ℕ) : Type 0 where
  pub was_free : node_at old.nodes.slots id ≡ None
  pub here : node_at new.nodes.slots id ≡ Some request
  pub nodes : (other : ℕ) → other ≢ id → node_at new.nodes.slots other ≡ node_at old.nodes.slots other
  pub links : (other : ℕ) → other ≢ id → link_at (links_of new) other ≡ link_at (links_of old) other
  pub link : link_at (links_of new) id ≡ Some None
  pub list : slots_of new.entries request.request.transaction ≡ slots_of old.entries request.request.transaction ++ id ∷ []
  pub lists : (t : ℕ) → t ≢ request.request.transaction → slots_of new.entries t ≡ slots_of old.entries t
  pub filled : AreFilled new.entries

-- the request of the id went; the ids of the transactions stay
pub record IsFreed (old new : KeptRequests) (id : ℕ) : Type 0 where
  pub gone : node_at new.nodes.slots id ≡ None
  pub nodes : (other : ℕ) → other ≢ id → node_at new.nodes.slots other ≡ node_at old.nodes.slots other
  pub links : (other : ℕ) → other ≢ id → link_at (links_of new) other ≡ link_at (links_of old) other
  pub lists : (t : ℕ) → slots_of new.entries t ≡ slots_of old.entries t
  pub filled : AreFilled new.entries
