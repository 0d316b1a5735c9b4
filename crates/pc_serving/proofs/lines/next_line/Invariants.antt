use Rattle.std.proofs.Common.{◌≡◌, ◌+◌, ℕ, List, false, take}
use Rattle.std.specs.Io.KnownBytes.{Consumes}
use Rattle.pc_serving.specs.Inputs.{has_feed}
use Rattle.pc_serving.specs.declared.lines.TheConstants.{MOST_LINE_BYTES}
use Rattle.pc_serving.proofs.lines.next_line.Given as goal

-- what was read so far has no line feed, and its first bytes are kept
abbrev pub invariant-loop : goal.invariant-loop
invariant-loop g l = (done : List ℕ) × Consumes (g.R.Read.remaining l.fn.input) (g.R.Read.remaining l.input) done × (has_feed done ≡ false) × (l.line.items ≡ take (MOST_LINE_BYTES + 1) done)
