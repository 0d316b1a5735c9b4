-- Entries whose fields lie in their text.
use Rattle.std.specs.Prelude.{◌≡◌, ℕ, ◌+◌, ◌==◌, ◌≤◌, if◌then◌else◌, List, length, take, drop, slice_index_or, Option, Some, None}
use Rattle.pc_types.specs.Bytes.{IsBytes}
use Rattle.pc_types.specs.Heads.{head}
use Rattle.pc_types.specs.declared.Triple.{Triple}
use Rattle.pc_io.specs.declared.formats.Format.{Format}
use Rattle.pc_part.specs.Lawful.{HasLimits}
use Rattle.pc_part.specs.Texts.{triple_text, triple_text_in}

-- the text is that of the entry in the format, and the entry is within its limits
pub record IsEntryIn (format : Format) (text : List ℕ) (entry : Triple) : Type 0 where
  pub is : text ≡ triple_text_in format entry
  pub limits : HasLimits entry

-- what a key has, in the text of an entry whose key ends there: four bytes of a point come after the key, then the kind, which is 0
-- if the key has nothing, and then four bytes of a length before the value
abbrev pub content_after_key : List ℕ → ℕ → Option (List ℕ)
content_after_key text key_end = if slice_index_or text (key_end + 4) 0 == 0 then None else Some (drop (key_end + 9) text)

-- the entry of a point in a text in format 02 whose key ends there; it begins after two bytes of its length
abbrev pub entry_in : List ℕ → ℕ → ℕ → Triple
entry_in text key_end point = record { key = drop 2 (take key_end text); point = point; content = content_after_key text key_end }

-- the text is that of the entry in it
pub record IsEntryText (text : List ℕ) (key_end point : ℕ) : Type 0 where
  pub of : IsEntryIn Format.Second text (entry_in text key_end point)
  pub ends : (2 ≤ key_end) × (key_end + 5 ≤ length text)
  pub value_ends : (slice_index_or text (key_end + 4) 0 ≡ 0 → ⊥) → key_end + 9 ≤ length text

-- the number is the head of the key, which is of bytes
abbrev pub IsHead : List ℕ → ℕ → Type 0
IsHead key number = (number ≡ head key) × IsBytes key
