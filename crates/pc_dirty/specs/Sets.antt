-- Two sets of slots, each a list in the order of first addition, over the links that someone keeps.
use Rattle.std.specs.Prelude.{◌≡◌, ⊤, ℕ, zero, suc, List, [], ◌∷◌, length, map, Option, Some, None}
use Rattle.pc_chain.specs.Chains.{Avoids, IsChain, IsEmpty}
use Rattle.pc_dirty.specs.declared.side.SideSlot.{SideSlot}
use Rattle.pc_dirty.specs.declared.side.Side.{Side}
use Rattle.pc_dirty.specs.declared.side.Side.TheVariants.{First, Second}
use Rattle.pc_dirty.specs.declared.dirty.Dirty.{Dirty}

-- the other side
abbrev pub other_side : Side → Side
other_side First = Second
other_side Second = First

-- the slot's place on the side
abbrev pub place_on_side : Side → ℕ → SideSlot
place_on_side side slot = record { slot = slot; side = side }

-- the places of the slots on the side
abbrev pub places_of : Side → List ℕ → List SideSlot
places_of side slots = map (place_on_side side) slots

-- over these links the open set is the one list, and the closed set the other
pub record AreSets (has : SideSlot → Type 0) (next : SideSlot → Option SideSlot) (dirty : Dirty) (opened closed : List ℕ) : Type 0 where
  pub open_chain : IsChain has next dirty.opened (places_of dirty.side opened)
  pub closed_chain : IsChain has next dirty.closed (places_of (other_side dirty.side) closed)
  pub open_count : dirty.open_count ≡ length opened
  pub closed_count : dirty.closed_count ≡ length closed

-- over any links both sets are empty
pub record AreEmpty (dirty : Dirty) : Type 0 where
  pub opened : IsEmpty dirty.opened
  pub closed : IsEmpty dirty.closed
  pub open_count : dirty.open_count ≡ 0
  pub closed_count : dirty.closed_count ≡ 0

-- at most that many slots, along the links from this place on
abbrev pub linked_slots : (SideSlot → Option SideSlot) → ℕ → Option SideSlot → List ℕ
linked_slots next n None = []
linked_slots next zero (Some place) = []
linked_slots next (suc n) (Some place) = place.slot ∷ linked_slots next n (next place)

-- the slots of the open set, by the links
abbrev pub opened_of : (SideSlot → Option SideSlot) → Dirty → List ℕ
opened_of next dirty = linked_slots next dirty.open_count dirty.opened.first

-- the slots of the closed set, by the links
abbrev pub closed_of : (SideSlot → Option SideSlot) → Dirty → List ℕ
closed_of next dirty = linked_slots next dirty.closed_count dirty.closed.first

-- no slot occurs twice
abbrev pub HasNoRepeats : List ℕ → Type 0
HasNoRepeats [] = ⊤
HasNoRepeats (x ∷ xs) = Avoids x xs × HasNoRepeats xs
