-- The rest of a text that is read piece by piece.
use Rattle.std.specs.Prelude.{ℕ, List, length, Option, Result, Ok, ◌==◌, Bool}
use Rattle.std.specs.Io.KnownBytes.{prepend_known}
use Rattle.pc_io.specs.Tallies.{inner_of}
use Rattle.pc_types.specs.declared.Refusal.{Refusal}
use Rattle.pc_io.specs.declared.tally.Tally.{Tally}
use Rattle.pc_streams.specs.declared.source.Source.{Source}

-- the counted reader
abbrev pub tally_of : {R : Type 0} → Source R → Tally R
tally_of source = source.tally

-- what was read and not used
abbrev pub buffered : {R : Type 0} → Source R → List ℕ
buffered source = source.buffer

-- what was read and not used, and what the reader has left, if that is known
abbrev pub text_left : {R : Type 0} → (R → Option (List ℕ)) → Source R → Option (List ℕ)
text_left remaining source = prepend_known (buffered source) (remaining (inner_of source.tally))

-- whether the bytes are none; none is used
abbrev pub is_over_at : List ℕ → Result (Bool × List ℕ) Refusal
is_over_at bytes = Ok (length bytes == 0, bytes)
