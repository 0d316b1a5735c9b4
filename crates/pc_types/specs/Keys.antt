-- Keys. A key is a space, which is a number of 16 bits, and 1 to 255 bytes of its own. It is seen as the list of its space's two
-- bytes, the higher one first, and its own bytes after them: keys and such lists correspond one to one, and the order of the lists,
-- byte by byte, is the order by space and then by own bytes.
use Rattle.std.specs.Prelude.{◌≡◌, ℕ, ◌≤◌, ◌<◌, ◌^◌, List, ◌++◌, length, take, drop}
use Rattle.std.specs.Int.{w16, to_be_bytes, from_be_bytes}
use Rattle.std.specs.declared.cmp.Ordering.{Ordering}
use Rattle.std.specs.Ordering.{nat_cmp, ordering_then}
use Rattle.std.specs.Cmp.Lexicographic.{slice_cmp}
use Rattle.pc_types.specs.declared.limits.TheConstants.{SPACE_BYTES}
use Rattle.pc_types.specs.Bytes.{IsBytes}

-- the key of these bytes in a space
abbrev pub key_of : ℕ → List ℕ → List ℕ
key_of space own = to_be_bytes w16 space ++ own

-- the space of a key
abbrev pub space_of : List ℕ → ℕ
space_of key = from_be_bytes w16 (take SPACE_BYTES key)

-- the bytes of a key's own
abbrev pub own_bytes : List ℕ → List ℕ
own_bytes key = drop SPACE_BYTES key

-- the order of a space and own bytes: by space, and in one space byte by byte
abbrev pub pair_cmp : ℕ × List ℕ → ℕ × List ℕ → Ordering
pair_cmp a b = ordering_then (nat_cmp a.0 b.0) (slice_cmp nat_cmp a.1 b.1)

-- Keys are ordered by space, and in one space byte by byte.
abbrev pub KeysAreOrdered : Type 0
KeysAreOrdered = (s t : ℕ) (own other : List ℕ) → s < 2 ^ 16 → t < 2 ^ 16 → slice_cmp nat_cmp (key_of s own) (key_of t other) ≡ pair_cmp (s, own) (t, other)

-- A key has the space and the bytes that it was made of.
abbrev pub KeysArePairs : Type 0
KeysArePairs = (space : ℕ) (own : List ℕ) → space < 2 ^ 16 → (space_of (key_of space own) ≡ space) × (own_bytes (key_of space own) ≡ own)

-- Each list of at least two bytes is made of its space and its own bytes.
abbrev pub PairsAreKeys : Type 0
PairsAreKeys = (key : List ℕ) → IsBytes key → SPACE_BYTES ≤ length key → (space_of key < 2 ^ 16) × (key_of (space_of key) (own_bytes key) ≡ key)
