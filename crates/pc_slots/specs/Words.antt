-- The words of a slot, one on each side of the two sets, and the ends of the queue of its requests.
use Rattle.std.specs.Prelude.{◌≡◌, ℕ, Bool, true, false, Option, Some, None}
use Rattle.pc_chain.specs.declared.chain.Chain.{Chain}
use Rattle.pc_dirty.specs.declared.side.SideSlot.{SideSlot}
use Rattle.pc_dirty.specs.declared.side.Side.{Side}
use Rattle.pc_dirty.specs.declared.side.Side.TheVariants.{First, Second}
use Rattle.pc_slots.specs.declared.cells.Cell.{Cell}
use Rattle.pc_slots.specs.declared.words.Mark.{Mark}

-- a slot's word on one side: the slot and the side that its link leads to, if it leads to one, and whether the slot is in the set
pub record Word : Type 0 where
  pub slot : ℕ
  pub leads_to : Option Side
  pub is_in : Bool

-- the mark of a slot that is in no set
abbrev pub blank_mark : Mark
blank_mark = record { leads_to = None; is_in = false }

-- the slot on the side that a link leads to
abbrev pub place_at : ℕ → Option Side → Option SideSlot
place_at slot None = None
place_at slot (Some side) = Some (record { slot = slot; side = side })

-- what the link of a word leads to
abbrev pub link_of_word : Word → Option SideSlot
link_of_word word = place_at word.slot word.leads_to

-- the slot that a link leads to; 0 if it leads to none
abbrev pub linked_slot : Option SideSlot → ℕ
linked_slot None = 0
linked_slot (Some place) = place.slot

-- the side that a link leads to
abbrev pub linked_side : Option SideSlot → Option Side
linked_side None = None
linked_side (Some place) = Some place.side

-- the mark with this link
abbrev pub leading : Option SideSlot → Mark → Mark
leading link mark = record mark { leads_to = linked_side link }

-- of two that on the side
abbrev pub on_side : {X : Type 0} → Side → X → X → X
on_side First a b = a
on_side Second a b = b

-- the words of a cell
abbrev pub first_word : Cell → Word
first_word cell = record { slot = cell.first_next; leads_to = cell.first.leads_to; is_in = cell.first.is_in }

abbrev pub second_word : Cell → Word
second_word cell = record { slot = cell.second_next; leads_to = cell.second.leads_to; is_in = cell.second.is_in }

-- the word on the side
abbrev pub word_of : Side → Cell → Word
word_of side cell = on_side side (first_word cell) (second_word cell)

-- both words
abbrev pub cell_words : Cell → Word × Word
cell_words cell = (first_word cell, second_word cell)

-- the slot is in the set on the side
abbrev pub is_marked : Side → Cell → Bool
is_marked side cell = (word_of side cell).is_in

-- what the link on the side leads to
abbrev pub link_of : Side → Cell → Option SideSlot
link_of side cell = link_of_word (word_of side cell)

-- the cell with this mark on the side
abbrev pub with_mark : Side → Bool → Cell → Cell
with_mark side mark cell = record cell { first = on_side side (record cell.first { is_in = mark }) cell.first; second = on_side side cell.second (record cell.second { is_in = mark }) }

-- the cell with this link on the side
abbrev pub with_link : Side → Option SideSlot → Cell → Cell
with_link side link cell = record cell {
  first_next = on_side side (linked_slot link) cell.first_next;
  second_next = on_side side cell.second_next (linked_slot link);
  first = on_side side (leading link cell.first) cell.first;
  second = on_side side cell.second (leading link cell.second);
}

-- the cell without its links
abbrev pub unlinked : Cell → Cell
unlinked cell = record cell { first_next = 0; second_next = 0; first = leading None cell.first; second = leading None cell.second }

-- the links are those that there were
pub record HaveLinks (old new : Cell) : Type 0 where
  pub first_slot : new.first_next ≡ old.first_next
  pub first_side : new.first.leads_to ≡ old.first.leads_to
  pub second_slot : new.second_next ≡ old.second_next
  pub second_side : new.second.leads_to ≡ old.second.leads_to

-- an end of a queue, if there is one
abbrev pub end_at : Bool → ℕ → Option ℕ
end_at true end = Some end
end_at false end = None

-- the ends of the queue of a cell
abbrev pub chain_in : Cell → Chain ℕ
chain_in cell = record { first = end_at cell.has_first cell.first_request; last = end_at cell.has_last cell.last_request }

-- the second cell with the ends of the first
abbrev pub with_ends : Cell → Cell → Cell
with_ends ends cell = record cell { has_first = ends.has_first; has_last = ends.has_last; first_request = ends.first_request; last_request = ends.last_request }
