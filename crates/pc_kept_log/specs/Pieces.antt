-- Where an entry is in the pieces of a log.
use Rattle.std.specs.Prelude.{◌≡◌, ℕ, ◌+◌, ◌≤◌, ◌<◌, List, ◌++◌, length, slice_index_or}
use Rattle.pc_types.specs.declared.Entry.{Entry}
use Rattle.pc_types.specs.declared.Entry.TheVariants.{Token}
use Rattle.pc_types.specs.declared.Phase.TheVariants.{Rest}
use Rattle.pc_kept_log.specs.Chunks.{Piece}

-- the piece's entries are some of the entries, in order
abbrev pub IsPiece : List Entry → Piece → Type 0
IsPiece entries piece = (front : List Entry) × (behind : List Entry) × (entries ≡ front ++ (piece.entries ++ behind)) × (length front ≡ piece.first)

-- and the one at the place is among them
pub record PieceHasPlace (entries : List Entry) (piece : Piece) (place : ℕ) : Type 0 where
  pub begins : piece.first ≤ place
  pub ends : place < piece.first + length piece.entries
  pub parts : IsPiece entries piece

-- the entry at a place; if there is none, a token that no log has
abbrev pub entry_at_place : List Entry → ℕ → Entry
entry_at_place entries place = slice_index_or entries place (Token Rest 0)
