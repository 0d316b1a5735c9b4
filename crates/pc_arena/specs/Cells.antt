-- The invariant of cells, and the free slots among them.
use Rattle.std.specs.Prelude.{◌≡◌, ◌<◌, ◌≤◌, ◌-◌, ◌++◌, ℕ, Bool, true, false, List, map, length, replicate, Option, Some, None}
use Rattle.pc_types.specs.declared.limits.TheConstants.{MOST_KEYS}
use Rattle.pc_chain.specs.declared.chain.Chain.{Chain}
use Rattle.pc_chain.specs.Chains.{Avoids, AllHave, IsChain}
use Rattle.pc_arena.specs.declared.cells.ArenaCell.{ArenaCell}
use Rattle.pc_arena.specs.declared.cells.ArenaCell.TheVariants.{Free, Taken}
use Rattle.pc_chain.specs.Slots.{Slots, at}

-- that many more after the list, each `None`
abbrev pub padded : {X : Type 0} → ℕ → List (Option X) → List (Option X)
padded n xs = xs ++ replicate n None

-- the slot of the number if a link leads to one, else none
abbrev pub slot_if_linked : Bool → ℕ → Option ℕ
slot_if_linked true next = Some next
slot_if_linked false next = None

module _ {T : Type 0} where
  -- the record of a cell, if it has one
  abbrev pub item_of : ArenaCell T → Option T
  item_of (Free leads next) = None
  item_of (Taken leads next item) = Some item

  -- where a cell leads
  abbrev pub link_of : ArenaCell T → Option ℕ
  link_of (Free leads next) = slot_if_linked leads next
  link_of (Taken leads next item) = slot_if_linked leads next

  -- the cell with another record
  abbrev pub with_record : ArenaCell T → T → ArenaCell T
  with_record (Free leads next) item = Taken leads next item
  with_record (Taken leads next old) item = Taken leads next item

  -- the records of the cells
  abbrev pub items_of : List (ArenaCell T) → List (Option T)
  items_of cells = map item_of cells

  -- the links of the cells
  abbrev pub links_of : List (ArenaCell T) → List (Option ℕ)
  links_of cells = map link_of cells

  -- how many slots of that number were never written
  abbrev pub unwritten : ℕ → List (ArenaCell T) → ℕ
  unwritten capacity cells = capacity - length cells

  -- what is seen of that many slots, of which the first have these cells and the others were never written
  abbrev pub slots_of : ℕ → List (ArenaCell T) → Slots T
  slots_of capacity cells = record { items = padded (unwritten capacity cells) (items_of cells); links = padded (unwritten capacity cells) (links_of cells) }

  -- these slots, and no others of the first n, have no record, and over these links the chain is the list of them
  pub record IsFreeList (n : ℕ) (items : List (Option T)) (links : List (Option ℕ)) (free : Chain ℕ) (ids : List ℕ) : Type 0 where
    pub line : IsChain (λ id. id < n) (at links) free ids
    pub bare : AllHave (λ id. at items id ≡ None) ids
    pub all : (id : ℕ) → id < n → at items id ≡ None → Avoids id ids → ⊥

  -- the chain is the list of the slots that were written and have no record
  pub record AreCellsKept (capacity : ℕ) (cells : List (ArenaCell T)) (free : Chain ℕ) : Type 0 where
    pub ids : List ℕ
    pub list : IsFreeList (length cells) (items_of cells) (links_of cells) free ids
    pub within : length cells ≤ capacity
    pub small : capacity ≤ MOST_KEYS
