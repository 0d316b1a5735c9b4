-- The growth of a device to which a log is appended.
use Rattle.std.specs.Prelude.{ℕ, List, Option}
use Rattle.std.specs.Io.KnownBytes.{Appends}

-- what is known grows by some text, which may be none
abbrev pub Grows : Option (List ℕ) → Option (List ℕ) → Type 0
Grows old new = (text : List ℕ) × Appends old new text
