-- The tree over places: which place each node has, and the numbers that represent keys.
use Rattle.std.specs.Prelude.{◌≡◌, ℕ, zero, suc, ◌+◌, ◌*◌, ◌/◌, ◌^◌, ◌<◌, ◌≤◌, List, Option, Some, None, length, slice_index}
use Rattle.pc_types.specs.declared.Triple.{Triple}
use Rattle.pc_types.specs.Bytes.{IsBytes}
use Rattle.pc_types.specs.Heads.{head}
use Rattle.pc_merge.specs.declared.limits.TheConstants.{MOST_INPUTS}
use Rattle.pc_merge.specs.Tournaments.{first_entry_at, IsNoLater}

-- the node that many levels above another
abbrev pub node_above : ℕ → ℕ → ℕ
node_above zero node = node
node_above (suc levels) node = node_above levels (node / 2)

-- the node is the other one or above it
abbrev pub IsAncestorOrSelf : ℕ → ℕ → Type 0
IsAncestorOrSelf node other = (levels : ℕ) × (node_above levels other ≡ node)

-- the place that a node has
abbrev pub node_place : List ℕ → ℕ → ℕ
node_place tree node = slice_index tree node

-- the node has a place whose leaf is below it, or itself that leaf
pub record HasPlaceBelow (places : ℕ) (node place : ℕ) : Type 0 where
  pub within : place < places
  pub over : IsAncestorOrSelf node (places + place)

-- each node has a place whose leaf is below it, and a leaf its own
pub record AreNodes (places : ℕ) (tree : List ℕ) : Type 0 where
  pub size : length tree ≡ 2 * places
  pub below : (node : ℕ) → 1 ≤ node → node < 2 * places → HasPlaceBelow places node (node_place tree node)
  pub leaves : (place : ℕ) → place < places → node_place tree (places + place) ≡ place

-- the entry at a node's place comes no later than the entries at those of its two children
pub record HasBetter (firsts : List (Option Triple)) (tree : List ℕ) (node : ℕ) : Type 0 where
  pub left : IsNoLater (first_entry_at firsts (node_place tree node)) (first_entry_at firsts (node_place tree (2 * node)))
  pub right : IsNoLater (first_entry_at firsts (node_place tree node)) (first_entry_at firsts (node_place tree (2 * node + 1)))

-- each inner node has the better place of its two children
pub record IsTournament (firsts : List (Option Triple)) (tree : List ℕ) : Type 0 where
  pub nodes : AreNodes (length firsts) tree
  pub better : (node : ℕ) → 1 ≤ node → node < length firsts → HasBetter firsts tree node

-- the number is the head of the entry's key, or if there is none no less than all heads
abbrev pub IsHeadAt : Option Triple → ℕ → Type 0
IsHeadAt None number = 2 ^ 64 ≤ number + 1
IsHeadAt (Some entry) number = (number ≡ head entry.key) × IsBytes entry.key

-- the same at each place
pub record AreHeads (firsts : List (Option Triple)) (heads : List ℕ) : Type 0 where
  pub size : length heads ≡ length firsts
  pub each : (place : ℕ) → place < length firsts → IsHeadAt (first_entry_at firsts place) (slice_index heads place)

-- the entries' heads are known, and each inner node has the better place of its two children
pub record AreKept (firsts : List (Option Triple)) (heads tree : List ℕ) : Type 0 where
  pub few : length firsts ≤ MOST_INPUTS
  pub known : AreHeads firsts heads
  pub tournament : IsTournament firsts tree
