-- Two rows of links, one for each side.
use Rattle.std.specs.Prelude.{ℕ, ◌<◌, List, length, Option, None, slice_index_or}
use Rattle.pc_dirty.specs.declared.side.SideSlot.{SideSlot}
use Rattle.pc_dirty.specs.declared.side.Side.{Side}
use Rattle.pc_dirty.specs.declared.side.Side.TheVariants.{First, Second}
use Rattle.pc_dirty.specs.declared.dirty.Dirty.{Dirty}
use Rattle.pc_dirty.specs.Sets.{place_on_side, AreSets}

-- of two links that on the side
abbrev pub on_side : Side → Option SideSlot → Option SideSlot → Option SideSlot
on_side First a b = a
on_side Second a b = b

-- what the place's link leads to
abbrev pub link_at : List (Option SideSlot) → List (Option SideSlot) → SideSlot → Option SideSlot
link_at firsts seconds place = on_side place.side (slice_index_or firsts place.slot None) (slice_index_or seconds place.slot None)

-- the place's slot has a link on each side
abbrev pub has_links : List (Option SideSlot) → List (Option SideSlot) → SideSlot → Type 0
has_links firsts seconds place = (place.slot < length firsts) × (place.slot < length seconds)

-- twelve slots have links, and over these the open set is the list
pub record AreKept (firsts seconds : List (Option SideSlot)) (dirty : Dirty) (opened : List ℕ) : Type 0 where
  pub closed : List ℕ
  pub sets : AreSets (has_links firsts seconds) (link_at firsts seconds) dirty opened closed
  pub last : has_links firsts seconds (place_on_side First 11)
