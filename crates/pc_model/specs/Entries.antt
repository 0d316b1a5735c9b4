-- Entries without the one of a key.
use Rattle.std.specs.Prelude.{ℕ, not, filter, List}
use Rattle.pc_model.specs.Database.{same_bytes}

-- the pairs of the other keys
abbrev pub without_key : List ℕ → List (List ℕ × List ℕ) → List (List ℕ × List ℕ)
without_key key pairs = filter (λ pair. not (same_bytes key pair.0)) pairs
