-- The lines of an input, in order.
use Rattle.std.specs.Prelude.{◌≡◌, ◌==◌, ◌||◌, ℕ, Bool, true, false, List, [], ◌∷◌, ◌++◌, Option, Some, None, if◌then◌else◌, length, map, nat_lt, codes}
use Rattle.std.specs.Io.KnownBytes.{IsAtEnd}
use Rattle.bstr.specs.Text.{lines_of, without_terminator}
use Rattle.pc_serving.specs.declared.lines.TheConstants.{MOST_LINE_BYTES}

-- it has a line feed
abbrev pub has_feed : List ℕ → Bool
has_feed [] = false
has_feed (x ∷ text) = (x == 10) || has_feed text

-- the text up to its last line feed: the bytes after that are a truncated line
abbrev pub whole_part : List ℕ → List ℕ
whole_part [] = []
whole_part (x ∷ text) = if (x == 10) || has_feed text then x ∷ whole_part text else []

-- a line that spells nothing, as which one counts that is too long
abbrev pub long_line : List ℕ
long_line = codes "?"

-- a line without its end, with which it has at most this many bytes
abbrev pub line_of : List ℕ → List ℕ
line_of line = if nat_lt MOST_LINE_BYTES (length line) then long_line else without_terminator line

-- the lines of the text that are whole
abbrev pub whole_lines : List ℕ → List (List ℕ)
whole_lines text = map line_of (lines_of (whole_part text))

-- The text has a next whole line, which is this, and this is left after it; or it has none.
abbrev pub IsNextLine : List ℕ → Bool → List ℕ → Option (List ℕ) → Type 0
IsNextLine text true line left = (rest : List ℕ) × (left ≡ Some rest) × (whole_lines text ≡ line ∷ whole_lines rest)
IsNextLine text false line left = whole_lines text ≡ []

-- These bytes of an input were read: they end with their first line feed; or there are none, since it is at its end; or they have no line
-- feed.
abbrev pub IsLinePiece : Option Bool → List ℕ → Option (List ℕ) → Type 0
IsLinePiece (Some true) bytes input = (front : List ℕ) × (bytes ≡ front ++ 10 ∷ []) × (has_feed front ≡ false)
IsLinePiece (Some false) bytes input = (bytes ≡ []) × IsAtEnd input
IsLinePiece None bytes input = has_feed bytes ≡ false
