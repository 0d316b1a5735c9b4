-- Bytes are put into a buffer, after those that it has up to some place.
use Rattle.std.specs.Prelude.{◌≡◌, ℕ, ◌+◌, ◌≤◌, List, ◌++◌, length, take}

-- after the place there is room for that many bytes
abbrev pub HasSpace : List ℕ → ℕ → ℕ → Type 0
HasSpace room at size = at + size ≤ length room

-- these bytes are in the buffer after those that were before the place, up to an end
pub record ArePut (old new : List ℕ) (at : ℕ) (bytes : List ℕ) (end : ℕ) : Type 0 where
  pub ends : end ≡ at + length bytes
  pub there : take end new ≡ take at old ++ bytes
  pub same_room : length new ≡ length old
