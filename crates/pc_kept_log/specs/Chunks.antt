-- Pieces of a log: the texts of whole entries, in order, in a buffer.
use Rattle.std.specs.Prelude.{◌≡◌, ℕ, ◌+◌, ◌-◌, ◌≤◌, ◌<◌, ◌&&◌, List, [], ◌∷◌, length, take, nat_lt, slice_index_or, All, if◌then◌else◌}
use Rattle.std.specs.List.{flat_map}
use Rattle.pc_types.specs.declared.Entry.{Entry}
use Rattle.pc_log.specs.Texts.{entry_text, IsEntry}
use Rattle.pc_log.specs.Plain.{entries_in}
use Rattle.pc_kept_log.specs.declared.chunk.TheConstants.{CHUNK_BYTES}

-- a piece: the number of entries before it, its entries, and the most bytes that one more may have
pub record Piece : Type 0 where
  pub first : ℕ
  pub entries : List Entry
  pub room : ℕ

-- the places where the texts of the entries begin, in order
abbrev pub starts_from : ℕ → List Entry → List ℕ
starts_from at [] = []
starts_from at (entry ∷ entries) = at ∷ starts_from (at + length (entry_text entry)) entries

-- the bytes are the texts of entries, which begin at these places
pub record AreTexts (bytes starts : List ℕ) : Type 0 where
  pub text : bytes ≡ flat_map entry_text (entries_in bytes)
  pub lawful : All IsEntry (entries_in bytes)
  pub begin : starts ≡ starts_from 0 (entries_in bytes)

-- this many of the bytes are used: they are the texts of entries, which begin at these places
pub record IsFilled (bytes : List ℕ) (used : ℕ) (starts : List ℕ) : Type 0 where
  pub inside : used ≤ length bytes
  pub texts : AreTexts (take used bytes) starts

-- the most bytes that one more entry may have, if that many places for starts are left
abbrev pub room_behind : ℕ → ℕ → ℕ → ℕ
room_behind size used places = if nat_lt used CHUNK_BYTES && nat_lt 0 places then size - used else 0

-- the entries of pieces, one piece after the other
abbrev pub entries_in_pieces : List Piece → List Entry
entries_in_pieces pieces = flat_map (λ (piece : Piece). piece.entries) pieces

-- each piece has the number of entries in those before it
abbrev pub ArePiecesNumbered : List Piece → Type 0
ArePiecesNumbered pieces = (i : ℕ) (d : Piece) → i < length pieces → (slice_index_or pieces i d).first ≡ length (entries_in_pieces (take i pieces))
